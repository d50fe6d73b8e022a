use Rattle.std.proofs.Common.{refl}
use Rattle.order.proofs.laws.list_is_sound.Goals as goal

pub returns : goal.returns
returns c = record { ninety = refl; once = refl; within = refl }
