-- Shifts of w bits. A length above zero shifts left, one below zero right.
--   logical w l x         zeros come in
--   arithmetic l v        the number v times or divided by 2^l
--   cyclic_left w k x     turned left by k places; cyclic_right to the right
--   cyclic w l x          what leaves at one end comes in at the other
--   cyclic_within w l x   the same, with no answer past w places
use Rattle.std.specs.Prelude.{ℕ, suc, ◌+◌, ◌-◌, ◌*◌, ◌/◌, ◌%◌, ◌^◌, cond, ℤ, pos, negsuc, ◌+ℤ◌, ◌*ℤ◌, Some, None, Option, nat_le, unsigned_abs}
use Rattle.std.specs.Int.Signed.{shr_z}

-- left: times 2^l, and the bits past the top are lost; right: divided by 2^l, and the bits past the bottom are lost
abbrev pub logical : ℕ → ℤ → ℕ → ℕ
logical w (pos l) x = x * 2 ^ l % 2 ^ w
logical w (negsuc l) x = x / 2 ^ suc l

-- left: v * 2^l; right: (v + 2^(l-1)) / 2^l, rounded down, which is what shr_z does
abbrev pub arithmetic : ℤ → ℤ → ℤ
arithmetic (pos l) v = v *ℤ pos (2 ^ l)
arithmetic (negsuc l) v = shr_z (v +ℤ pos (2 ^ l)) (2 ^ suc l)

-- what passes the top comes in at the bottom
abbrev pub cyclic_left : ℕ → ℕ → ℕ → ℕ
cyclic_left w k x = x * 2 ^ k % 2 ^ w + x * 2 ^ k / 2 ^ w

-- what passes the bottom comes in at the top
abbrev pub cyclic_right : ℕ → ℕ → ℕ → ℕ
cyclic_right w k x = x / 2 ^ k + x % 2 ^ k * 2 ^ (w - k)

-- for lengths from -w to w
abbrev pub cyclic : ℕ → ℤ → ℕ → ℕ
cyclic w (pos l) x = cyclic_left w l x
cyclic w (negsuc l) x = cyclic_right w (suc l) x

abbrev pub cyclic_within : ℕ → ℤ → ℕ → Option ℕ
cyclic_within w l x = cond (nat_le (unsigned_abs l) w) (Some (cyclic w l x)) None
