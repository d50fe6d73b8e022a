use Rattle.std.proofs.Common.{refl}
use Rattle.transfer.specs.Symbols.{gather, send, packed, unpacked, stored, spread}
use Rattle.transfer.specs.Moves.{in_turn}
use Rattle.transfer.proofs.laws.samples.Goals as goal

pub returns : goal.returns
unfolding gather send packed unpacked stored spread in_turn
returns c = record {
  read_to_end = refl;
  tape_ends = refl;
  end_eighth = refl;
  damaged = refl;
  none_left = refl;
  write_to_end = refl;
  low_bits = refl;
  kept_word = refl;
  nothing_there = refl;
}
