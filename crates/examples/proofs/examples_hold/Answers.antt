use Rattle.std.proofs.Common.{refl}
use lib.Count.{ones, ones_in}
use Rattle.order.specs.Orders.{order_of}
use Rattle.order.specs.Table.{row_of}
use Rattle.units.specs.Frames.{sound_frame}
use Rattle.transfer.specs.Symbols.{gather, packed, stored}
use Rattle.buffers.specs.Buffers.{any_below}
use Rattle.examples.specs.Examples.{owned_after}
use Rattle.examples.proofs.examples_hold.Goals as goal

pub returns : goal.returns
unfolding owned_after order_of row_of any_below gather packed stored sound_frame ones ones_in
returns c = record {
  two_and_five = refl;
  erase_first = refl;
  sixteen_zeros = refl;
  seventeenth = refl;
  fetch_31 = refl;
  fetched_31 = refl;
  fetch_32 = refl;
  fetch_back = refl;
  fetched_back = refl;
  read_done = refl;
  read_word = refl;
  next_word = refl;
  read_line = refl;
}
