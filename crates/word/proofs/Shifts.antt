-- Shifts past the width, for every width w.
use Rattle.std.proofs.Common.{◌≡◌, ℕ, ◌-◌, ◌*◌, ◌/◌, ◌%◌, ◌^◌, ◌<◌, ◌≤◌, arith, pow_mono}
use Rattle.std.proofs.Math.Nat.{mul-mod_left, div-eq_of_lt}
use Rattle.word.proofs.Powers.{factor}

pub left_past : (w k x : ℕ) → w ≤ k → x * 2 ^ k % 2 ^ w ≡ 0
left_past w k x h = grind (arith, factor k w h, mul-mod_left (x * 2 ^ (k - w)) (2 ^ w))

pub right_past : (w k x : ℕ) → x < 2 ^ w → w ≤ k → x / 2 ^ k ≡ 0
right_past w k x p h = grind (arith, pow_mono, div-eq_of_lt)
