-- The operations on bits, at one place.
use Rattle.std.proofs.Common.{◌≡◌, ℕ, ◌+◌, ◌-◌, ◌/◌, ◌%◌, ◌^◌, ◌<◌, sym, ap, ◌∙◌, div-one, arith, pow_pos}
use lib.Count.{ones, ones_step, ones-le}
use Rattle.std.specs.Int.{bit_at}
use Rattle.std.proofs.lemmas.Nat.{and-not, pow_below}
use Rattle.std.proofs.lemmas.Nat.Bits.{bit_at_and, bit_at_or, bit_at_xor, and_pow, bit_at-lt}
use Rattle.word.specs.Places.{inverted, PlaceLaws}

-- the bit of x at k and that of x inverted make one
turned : (w x k : ℕ) → x < 2 ^ w → k < w → bit_at (inverted w x) k ≡ 1 - bit_at x k
turned w x k below h =
    grind (arith, and-not w x (2 ^ k) below (pow_below k w h), and_pow (inverted w x) k, and_pow x k, bit_at-lt (inverted w x) k, bit_at-lt x k, pow_pos k)

pub place_laws : PlaceLaws
place_laws = record {
  both = bit_at_and;
  either = bit_at_or;
  differing = bit_at_xor;
  turned = turned;
  counted = λ x. ones_step x ∙ ap (λ (n : ℕ). n % 2 + ones (x / 2)) (sym (div-one x));
  counted_none = omega (arith, ones-le 0 0 (omega arith));
}
