use Rattle.std.proofs.Common.{refl}
use Rattle.order.specs.Table.{row_of}
use Rattle.order.proofs.table.Row.of.Goals as goal

-- antt computes the test over the 256 rows
pub row_in-requires : goal.row_in-requires
unfolding row_of
row_in-requires c = refl
