use Rattle.std.proofs.Common.{arith}
use Rattle.std.proofs.lemmas.Int.{ints}
use Rattle.word.proofs.Rotate.{right_is_left}
use Rattle.word.proofs.word.Word.shift_cyclic.Goals as goal

pub returns-else-length-ge0 : goal.returns-else-length-ge0
returns-else-length-ge0 c = grind (arith, ints, right_is_left 48 c.unsigned_abs-by.result c.args.self.bits)
