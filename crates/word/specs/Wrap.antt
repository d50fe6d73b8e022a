-- Two's complement numbers of w bits, over whole numbers.
--   wrap w z      the w bits that are left of the number z
--   signed w x    the number that the w bits x stand for
--   outside w z   whether z overflows w bits
--   sign a b      which of two numbers is above
--   magnitude a   a number without its sign
use Rattle.std.specs.Prelude.{ℕ, ◌-◌, ◌%◌, ◌^◌, Bool, cond, ◌||◌, ℤ, pos, negsuc, neg_ℤ, int_le, int_lt, nat_lt}

-- z modulo 2^w
abbrev pub wrap : ℕ → ℤ → ℕ
wrap w (pos n) = n % 2 ^ w
wrap w (negsuc n) = 2 ^ w - 1 - n % 2 ^ w

-- x, or x - 2^w where the top bit is set
abbrev pub signed : ℕ → ℕ → ℤ
signed w x = cond (nat_lt x (2 ^ (w - 1))) (pos x) (negsuc (2 ^ w - 1 - x))

-- z lies below -2^(w-1) or above 2^(w-1) - 1
abbrev pub outside : ℕ → ℤ → Bool
outside w z = int_lt z (neg_ℤ (pos (2 ^ (w - 1)))) || int_le (pos (2 ^ (w - 1))) z

-- +1, 0 or -1 as a is above, equal to or below b
abbrev pub sign : ℤ → ℤ → ℤ
sign a b = cond (int_lt b a) (pos 1) (cond (int_lt a b) (negsuc 0) (pos 0))

-- -a where a is below zero, else a
abbrev pub magnitude : ℤ → ℤ
magnitude a = cond (int_lt a (pos 0)) (neg_ℤ a) a
