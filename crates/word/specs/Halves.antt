-- The halves of a word, 24 bits each. A half on the nest stands in the upper 24 bits, over zeros.
--   upper_half x        the upper half of x, on the nest
--   lower_half x        the lower half of x, on the nest
--   with_upper half x   x with its upper half replaced by the one that stands in half
--   with_lower half x   x with its lower half replaced by the one that stands in half
use Rattle.std.specs.Prelude.{ℕ, ◌+◌, ◌*◌, ◌/◌, ◌%◌, ◌^◌}

abbrev pub upper_half : ℕ → ℕ
upper_half x = x / 2 ^ 24 * 2 ^ 24

abbrev pub lower_half : ℕ → ℕ
lower_half x = x % 2 ^ 24 * 2 ^ 24

abbrev pub with_upper : ℕ → ℕ → ℕ
with_upper half x = half / 2 ^ 24 * 2 ^ 24 + x % 2 ^ 24

abbrev pub with_lower : ℕ → ℕ → ℕ
with_lower half x = x / 2 ^ 24 * 2 ^ 24 + half / 2 ^ 24
