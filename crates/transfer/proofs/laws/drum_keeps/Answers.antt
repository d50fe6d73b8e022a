use Rattle.transfer.proofs.Keeping.{drum_keeps}
use Rattle.transfer.proofs.laws.drum_keeps.Goals as goal

pub returns : goal.returns
returns c = drum_keeps
