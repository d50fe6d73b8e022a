use Rattle.std.proofs.Common.{refl, arith}
use Rattle.device.proofs.Cells.{below_replicate}
use Rattle.units.proofs.drum.Drum.new.Goals as goal

pub invariant_of-result : goal.invariant_of-result
invariant_of-result c = record { full = refl; symbols = below_replicate 64 4096 0 (omega arith); within = omega arith }
