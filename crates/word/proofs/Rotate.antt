-- A cyclic shift is a sum of two parts that share no bit, and one to the right is one to the left: for every width w.
use Rattle.std.proofs.Common.{◌≡◌, ℕ, ◌-◌, ◌*◌, ◌/◌, ◌%◌, ◌^◌, ◌<◌, ◌≤◌, arith, shr-shr}
use Rattle.std.specs.Int.Bits.{bit_or}
use Rattle.std.proofs.Math.Nat.{mul-mod_left}
use Rattle.std.proofs.lemmas.Nat.{mod-pow-add, shl-shr, shr_below, or_shifted}
use Rattle.word.specs.Shift.{cyclic_left, cyclic_right}

module _ (w k x : ℕ) (h : k ≤ w) where
  high : x * 2 ^ k % 2 ^ w ≡ x % 2 ^ (w - k) * 2 ^ k
  high = grind (arith, mod-pow-add (x * 2 ^ k) (w - k) k, shl-shr x k, mul-mod_left x (2 ^ k))

  low : x * 2 ^ k / 2 ^ w ≡ x / 2 ^ (w - k)
  low = grind (arith, shr-shr (x * 2 ^ k) k (w - k), shl-shr x k)

  small : x < 2 ^ w → x / 2 ^ (w - k) < 2 ^ k
  small below = grind (arith, shr_below x k (w - k))

  pub rotate : x < 2 ^ w → bit_or (x * 2 ^ k % 2 ^ w) (x / 2 ^ (w - k)) ≡ cyclic_left w k x
  rotate below = grind (arith, high, low, or_shifted (x % 2 ^ (w - k)) k (x / 2 ^ (w - k)) (small below))

-- right by k is left by what k lacks of the width
pub right_is_left : (w k x : ℕ) → k ≤ w → x < 2 ^ w → cyclic_left w (w - k) x ≡ cyclic_right w k x
right_is_left w k x h below =
    grind (arith, high w (w - k) x (omega arith), low w (w - k) x (omega arith))
