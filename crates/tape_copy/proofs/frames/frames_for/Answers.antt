use Rattle.tape_copy.proofs.Copies.{read_back}
use Rattle.tape_copy.proofs.frames.frames_for.Goals as goal

pub returns-clause-back : goal.returns-clause-back
returns-clause-back c = read_back
