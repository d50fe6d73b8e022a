use Rattle.std.proofs.Common.{arith}
use Rattle.std.proofs.lemmas.List.{get_or_default}
use Rattle.units.proofs.Cells.{read_cell}
use Rattle.units.proofs.reader.TapeReaderDevice.read.Goals as goal

pub returns-clause-answer : goal.returns-clause-answer
returns-clause-answer c = grind (arith, get_or_default, read_cell)
