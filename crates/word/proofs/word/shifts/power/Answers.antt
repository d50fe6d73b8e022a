use Rattle.std.proofs.Common.{arith}
use Rattle.std.proofs.lemmas.Nat.{one_shl, pow_below}
use Rattle.std.proofs.lemmas.Int.{to_z_pos, ints}
use Rattle.word.proofs.word.shifts.power.Goals as goal

pub returns-clause-value : goal.returns-clause-value
returns-clause-value c = grind (arith, one_shl c.args.by 64, pow_below c.args.by 62, to_z_pos)

pub returns-clause-bound : goal.returns-clause-bound
returns-clause-bound c = grind (arith, ints, one_shl c.args.by 64, pow_below c.args.by 62, to_z_pos)
