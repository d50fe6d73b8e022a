use Rattle.units.proofs.Frames.{read_back}
use Rattle.units.proofs.laws.frames_read_back.Goals as goal

pub returns : goal.returns
returns c = read_back
