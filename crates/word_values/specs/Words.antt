-- Numbers that are words.
use Rattle.std.specs.Prelude.{ℕ, ◌^◌, cond, ℤ, pos, negsuc, Some, None, Option, nat_lt}

-- a number from 0 to 2^48 - 1 is that word; no other number is one
abbrev pub word_in : ℤ → Option ℕ
word_in (pos n) = cond (nat_lt n (2 ^ 48)) (Some n) None
word_in (negsuc n) = None
