-- Words as separate bits. Place k counts 2^k: D47 is place 0, and D0 is place 47. `bit_at x k` is the bit of x at place k.
--   inverted w x   each of the w bits of x turned
--   PlaceLaws      what the operations on bits give at each place
use Rattle.std.specs.Prelude.{◌≡◌, ℕ, ◌+◌, ◌-◌, ◌/◌, ◌%◌, ◌^◌, ◌<◌, min, max, bit_and, bit_or, bit_xor, count_ones}
use Rattle.std.specs.Int.{bit_at}

abbrev pub inverted : ℕ → ℕ → ℕ
inverted w x = 2 ^ w - 1 - x

pub record PlaceLaws : Type 0 where
  -- AND has a one where both have, OR where either has, the exclusive or where one alone has
  pub both : (a b k : ℕ) → bit_at (bit_and a b) k ≡ min (bit_at a k) (bit_at b k)
  pub either : (a b k : ℕ) → bit_at (bit_or a b) k ≡ max (bit_at a k) (bit_at b k)
  pub differing : (a b k : ℕ) → bit_at (bit_xor a b) k ≡ (bit_at a k + bit_at b k) % 2
  -- NOT has a one where there was none
  pub turned : (w x k : ℕ) → x < 2 ^ w → k < w → bit_at (inverted w x) k ≡ 1 - bit_at x k
  -- the ones are those of the lowest place and those above it
  pub counted : (x : ℕ) → count_ones x ≡ bit_at x 0 + count_ones (x / 2)
  pub counted_none : count_ones 0 ≡ 0
