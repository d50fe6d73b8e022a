-- What holds of wrapping, whatever the width; and what follows at 16 bits and at 48.
--   Wraps w    numbers and the w bits that are left of them
--   Fits q     the parts of q are 16 bits each
--   PartLaws   at 16 bits: the parts of a Q
--   WordLaws   at 48 bits: words
use Rattle.std.specs.Prelude.{◌≡◌, ℕ, ◌+◌, ◌*◌, ◌%◌, ◌^◌, ◌<◌, ◌≤◌, false, ℤ, pos, ◌+ℤ◌, ◌-ℤ◌, ◌*ℤ◌, neg_ℤ}
use Rattle.word.specs.Wrap.{wrap, signed, outside}
use Rattle.word.specs.Qs.{advanced, retreated, count_negated, joined, split, part_word, word_part}
use Rattle.word.specs.declared.q.Q.{Q}

pub record Wraps (w : ℕ) : Type 0 where
  -- wrapping is modulo 2^w: what is left is below 2^w, and multiples of 2^w do not count
  pub below : (a : ℤ) → wrap w a < 2 ^ w
  pub turns : (a : ℤ) (k : ℕ) → wrap w (a +ℤ pos (k * 2 ^ w)) ≡ wrap w a
  -- an operation may wrap its operands first
  pub add : (a b : ℤ) → wrap w (pos (wrap w a) +ℤ pos (wrap w b)) ≡ wrap w (a +ℤ b)
  pub sub : (a b : ℤ) → wrap w (pos (wrap w a) -ℤ pos (wrap w b)) ≡ wrap w (a -ℤ b)
  pub neg : (a : ℤ) → wrap w (neg_ℤ (pos (wrap w a))) ≡ wrap w (neg_ℤ a)
  pub mul : (a b : ℤ) → wrap w (pos (wrap w a) *ℤ pos (wrap w b)) ≡ wrap w (a *ℤ b)
  -- so may a wrap to fewer bits
  pub narrow : (v : ℕ) (a : ℤ) → v ≤ w → wrap v (pos (wrap w a)) ≡ wrap v a
  -- w bits are the number that they stand for, wrapped, and that number does not overflow
  pub bits : (x : ℕ) → x < 2 ^ w → wrap w (signed w x) ≡ x
  pub inside : (x : ℕ) → 0 < w → x < 2 ^ w → outside w (signed w x) ≡ false
  -- a number that does not overflow is the one that its bits stand for
  pub number : (a : ℤ) → 0 < w → outside w a ≡ false → signed w (wrap w a) ≡ a

pub record Fits (q : Q) : Type 0 where
  pub c_fits : q.c < 2 ^ 16
  pub i_fits : q.i < 2 ^ 16
  pub m_fits : q.m < 2 ^ 16

pub record PartLaws : Type 0 where
  -- M-I undoes M+I, M+I undoes M-I, and NC itself
  pub advance_undone : (q : Q) → Fits q → retreated (advanced q) ≡ q
  pub retreat_undone : (q : Q) → Fits q → advanced (retreated q) ≡ q
  pub negate_undone : (q : Q) → Fits q → count_negated (count_negated q) ≡ q
  -- a part that goes to the nest, with its sign, comes back as it was
  pub part_undone : (p : ℕ) → p < 2 ^ 16 → word_part (part_word p) ≡ p
  -- so does a whole Q, and a word that is parted
  pub join_undone : (q : Q) → Fits q → split (joined q) ≡ q
  pub split_undone : (x : ℕ) → x < 2 ^ 48 → joined (split x) ≡ x

pub record WordLaws : Type 0 where
  -- a difference undoes a sum, a sum a difference, and NEG itself, overflow or not
  pub add_undone : (a b : ℕ) → a < 2 ^ 48 → wrap 48 (signed 48 (wrap 48 (signed 48 a +ℤ signed 48 b)) -ℤ signed 48 b) ≡ a
  pub sub_undone : (a b : ℕ) → a < 2 ^ 48 → wrap 48 (signed 48 (wrap 48 (signed 48 a -ℤ signed 48 b)) +ℤ signed 48 b) ≡ a
  pub neg_undone : (a : ℕ) → a < 2 ^ 48 → wrap 48 (neg_ℤ (signed 48 (wrap 48 (neg_ℤ (signed 48 a))))) ≡ a
  -- with or without the sign, a sum is the sum of the bits, masked
  pub sum_masked : (a b : ℕ) → a < 2 ^ 48 → b < 2 ^ 48 → wrap 48 (signed 48 a +ℤ signed 48 b) ≡ (a + b) % 2 ^ 48
