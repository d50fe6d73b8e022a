-- Powers of two.
use Rattle.std.proofs.Common.{◌≡◌, ℕ, suc, ◌-◌, ◌*◌, ◌^◌, ◌<◌, ◌≤◌, arith, pow-add}
use Rattle.std.proofs.lemmas.Grind.{common_steps}

-- 2^m, where k is at most m
pub factor : (m k : ℕ) → k ≤ m → 2 ^ m ≡ 2 ^ (m - k) * 2 ^ k
factor m k h = grind (arith, pow-add)

pub double : (w : ℕ) → 0 < w → 2 ^ w ≡ 2 * 2 ^ (w - 1)
double w h = grind (arith, common_steps)

pub double_suc : (l : ℕ) → 2 ^ suc l ≡ 2 * 2 ^ l
double_suc l = grind arith
