use Rattle.std.proofs.Common.{◌/◌, ◌%◌, ◌^◌, [], ◌∷◌, ap, div-one, arith}
use Rattle.transfer.specs.Symbols.{packed, unpacked}
use Rattle.examples.proofs.symbols_agree.Goals as goal

pub returns : goal.returns
unfolding packed unpacked
returns c = record {
  parted = λ x.
      ap (λ l. x / 2 ^ 42 % 64 ∷ x / 2 ^ 36 % 64 ∷ x / 2 ^ 30 % 64 ∷ x / 2 ^ 24 % 64 ∷ x / 2 ^ 18 % 64 ∷ x / 2 ^ 12 % 64 ∷ x / 2 ^ 6 % 64 ∷ l % 64 ∷ []) (div-one x);
  joined = λ a b c d e f g h ha hb hc hd he hf hg hh. omega arith;
}
