-- A Q: the parts C, I and M, each a number below 2^16; and the ways of 16 bits to and from a word.
--   parts c i m             the Q of these three
--   with_c, with_i, with_m  one part replaced
--   advanced, retreated     M+I and M-I
--   count_negated           C := -C
--   counted_down            C := C - 1
--   joined, split           a Q in one word, and a word's three parts
--   part_word p             a part on the nest, signed
--   word_part x             the part that is taken from the word x
--   address_sum b m         the address that a base and a modifier make
use Rattle.std.specs.Prelude.{ℕ, ◌+◌, ◌*◌, ◌/◌, ◌%◌, ◌^◌, pos, ◌+ℤ◌, ◌-ℤ◌, neg_ℤ}
use Rattle.word.specs.Wrap.{wrap, signed}
use Rattle.word.specs.declared.q.Q.{Q}

abbrev pub parts : ℕ → ℕ → ℕ → Q
parts c i m = record { c = c; i = i; m = m }

abbrev pub with_c : ℕ → Q → Q
with_c x q = parts x q.i q.m

abbrev pub with_i : ℕ → Q → Q
with_i x q = parts q.c x q.m

abbrev pub with_m : ℕ → Q → Q
with_m x q = parts q.c q.i x

abbrev pub advanced : Q → Q
advanced q = with_m (wrap 16 (pos q.m +ℤ pos q.i)) q

abbrev pub retreated : Q → Q
retreated q = with_m (wrap 16 (pos q.m -ℤ pos q.i)) q

abbrev pub count_negated : Q → Q
count_negated q = with_c (wrap 16 (neg_ℤ (pos q.c))) q

abbrev pub counted_down : Q → Q
counted_down q = with_c (wrap 16 (pos q.c -ℤ pos 1)) q

-- C highest
abbrev pub joined : Q → ℕ
joined q = q.c * 2 ^ 32 + q.i * 2 ^ 16 + q.m

abbrev pub split : ℕ → Q
split x = parts (x / 2 ^ 32) (x / 2 ^ 16 % 2 ^ 16) (x % 2 ^ 16)

abbrev pub part_word : ℕ → ℕ
part_word p = wrap 48 (signed 16 p)

abbrev pub word_part : ℕ → ℕ
word_part x = x % 2 ^ 16

abbrev pub address_sum : ℕ → ℕ → ℕ
address_sum b m = (b + m) % 2 ^ 16
