-- A number of w bits, divided by 2^(l+1) and rounded: for every width w.
use Rattle.std.proofs.Common.{◌≡◌, ℕ, suc, ◌+◌, ◌-◌, ◌/◌, ◌^◌, ◌<◌, ◌≤◌, false, pos, negsuc, ◌+ℤ◌, div-le_self, arith, pow_pos, pow_mono}
use Rattle.std.proofs.Math.Nat.{div-eq_of_lt}
use Rattle.std.specs.Int.Signed.{shr_z}
use Rattle.std.proofs.lemmas.Int.{ints}
use Rattle.std.proofs.lemmas.Nat.{div_below}
use Rattle.word.specs.Wrap.{signed, outside}
use Rattle.word.proofs.Powers.{double, double_suc}
use Rattle.word.proofs.Wrapping.{in_pos, in_neg}

module _ (w l x : ℕ) (some : 0 < w) (below : x < 2 ^ w) where
  inside_pos : x < 2 ^ (w - 1) → outside w (shr_z (pos x +ℤ pos (2 ^ l)) (2 ^ suc l)) ≡ false
  inside_pos small =
      in_pos w ((x + 2 ^ l) / 2 ^ suc l) (div_below (x + 2 ^ l) (2 ^ suc l) (2 ^ (w - 1)) (pow_pos (suc l)) (grind (arith, double_suc l, pow_pos l, pow_pos (w - 1))))

  -- x with its sign, and a half of the divisor: a number above zero, or one below
  inside_neg : 2 ^ (w - 1) ≤ x → outside w (shr_z (negsuc (2 ^ w - 1 - x) +ℤ pos (2 ^ l)) (2 ^ suc l)) ≡ false
  inside_neg large =
      let high = 2 ^ l - (2 ^ w - x) in
      let low = 2 ^ w - x - 2 ^ l - 1 in
      grind (arith, ints, in_pos w (high / 2 ^ suc l), in_neg w (low / 2 ^ suc l), div-le_self low (2 ^ suc l), div-eq_of_lt {n = high} {m = 2 ^ suc l}, double w some, double_suc l, pow_pos l, pow_pos (w - 1))

  -- the quotient does not leave the range
  pub round_inside : outside w (shr_z (signed w x +ℤ pos (2 ^ l)) (2 ^ suc l)) ≡ false
  round_inside = grind (arith, inside_pos, inside_neg)

  -- past the width it is zero
  pub round_past : w ≤ suc l → shr_z (signed w x +ℤ pos (2 ^ l)) (2 ^ suc l) ≡ pos 0
  round_past h = grind (arith, ints, double w some, double_suc l, pow_pos l, div-eq_of_lt, pow_mono {i = w - 1} {j = l} (omega arith))
