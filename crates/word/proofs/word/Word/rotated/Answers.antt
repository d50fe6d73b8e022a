use Rattle.std.proofs.Common.{◌*◌, ◌^◌, arith, rules}
use Rattle.std.proofs.lemmas.Nat.{or_lt}
use Rattle.std.proofs.Math.Pow.{mod-mod-pow}
use Rattle.word.proofs.Rotate.{rotate}
use Rattle.word.proofs.word.Word.rotated.Goals as goal

pub invariant_of-result : goal.invariant_of-result
invariant_of-result c = search (rules, or_lt 48)

pub returns : goal.returns
returns c = grind (arith, mod-mod-pow (c.args.self.bits * 2 ^ c.args.by) 16 48, rotate 48 c.args.by c.args.self.bits)
