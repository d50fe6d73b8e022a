-- The registers of a program: what they hold, and how an order names and changes them.
--   Regs         what the registers hold; nest and links begin with the newest
--   bits_of      the number that the bits of a word are; word_of: the word of a number
--   no_regs      what new registers hold
--   N1, N2, N3   the words on top of the nest; signed_n1, signed_n2: as numbers
--   link, q_of   the newest link, and the Q of a number
--   push, pop    a word onto the nest, and N1 removed; push_link, pop_link: likewise the links
--   put_q q x    x written into Q number q
--   go_if b a    a jump to place a if b; overflow_if b: V set if b
--   push_number  the word of a number onto the nest, V set if the number is that of no word
--   with_..      one register replaced
use Rattle.std.specs.Prelude.{◌≡◌, ℕ, ◌%◌, ◌^◌, ◌<◌, Bool, false, cond, ◌||◌, List, [], ◌∷◌, map, ℤ, drop, replicate, ◌==◌, slice_index, slice_index_or, slice_set}
use Rattle.std.proofs.Common.{lit<, refl, ap₂}
use Rattle.std.proofs.Math.Nat.{mod-lt, mod-eq_of_lt}
use Rattle.std.specs.Coded.{le_prop}
use mathlib.Core.HLevel.{is_prop→PathP}
use Rattle.word.specs.Wrap.{wrap, signed, outside}
use Rattle.word.specs.Qs.{parts}
use Rattle.word.specs.declared.q.Q.{Q}
use Rattle.word.specs.declared.word.Word.{Word}

-- what the registers hold, nest and links with the newest first
pub record Regs : Type 0 where
  pub nest : List ℕ
  pub links : List ℕ
  pub qs : List Q
  pub overflow : Bool
  pub test : Bool
  pub place : ℕ

-- the number that the bits of a word are
abbrev pub bits_of : Word → ℕ
bits_of w = w.bits

-- the word of the low 48 bits of a number
abbrev pub word_of : ℕ → Word
word_of n = record { bits = n % 2 ^ 48; ok = mod-lt n (lit< tt) }

-- words of the same bits are the same, and a word is that of its bits
pub same_word : (v w : Word) → v.bits ≡ w.bits → v ≡ w
same_word v w e = λ i. record { bits = e i; ok = is_prop→PathP (λ j. e j < 2 ^ 48) (λ j. le_prop) v.ok w.ok i }

pub word_of-bits_of : (ws : List Word) → map word_of (map bits_of ws) ≡ ws
word_of-bits_of [] = refl
word_of-bits_of (w ∷ ws) = ap₂ ◌∷◌ (same_word (word_of w.bits) w (mod-eq_of_lt w.ok)) (word_of-bits_of ws)

abbrev pub no_regs : Regs
no_regs = record { nest = []; links = []; qs = replicate 16 (parts 0 0 0); overflow = false; test = false; place = 0 }

-- one register changed

abbrev pub with_nest : List ℕ → Regs → Regs
with_nest x r = record r { nest = x }

abbrev pub with_links : List ℕ → Regs → Regs
with_links x r = record r { links = x }

abbrev pub with_qs : List Q → Regs → Regs
with_qs x r = record r { qs = x }

abbrev pub with_overflow : Bool → Regs → Regs
with_overflow x r = record r { overflow = x }

abbrev pub with_test : Bool → Regs → Regs
with_test x r = record r { test = x }

abbrev pub with_place : ℕ → Regs → Regs
with_place x r = record r { place = x }

-- the words on top of the nest
abbrev pub N1 : Regs → ℕ
N1 r = slice_index r.nest 0

abbrev pub N2 : Regs → ℕ
N2 r = slice_index r.nest 1

abbrev pub N3 : Regs → ℕ
N3 r = slice_index r.nest 2

-- N1 and N2 as two's complement numbers
abbrev pub signed_n1 : Regs → ℤ
signed_n1 r = signed 48 (N1 r)

abbrev pub signed_n2 : Regs → ℤ
signed_n2 r = signed 48 (N2 r)

-- the newest link, and Q number q
abbrev pub link : Regs → ℕ
link r = slice_index r.links 0

abbrev pub q_of : ℕ → Regs → Q
q_of q r = slice_index_or r.qs q (parts 0 0 0)

-- the changes that the orders are made of

-- a word onto the nest, and N1 removed
abbrev pub push : ℕ → Regs → Regs
push x r = with_nest (x ∷ r.nest) r

abbrev pub pop : Regs → Regs
pop r = with_nest (drop 1 r.nest) r

-- a place onto the links, and the newest removed
abbrev pub push_link : ℕ → Regs → Regs
push_link x r = with_links (x ∷ r.links) r

abbrev pub pop_link : Regs → Regs
pop_link r = with_links (drop 1 r.links) r

-- a write to Q0 is lost
abbrev pub put_q : ℕ → Q → Regs → Regs
put_q q x r = with_qs (cond (q == 0) r.qs (slice_set r.qs q x)) r

-- V is set if b, and stays set
abbrev pub overflow_if : Bool → Regs → Regs
overflow_if b r = with_overflow (r.overflow || b) r

-- a jump to a if b
abbrev pub go_if : Bool → ℕ → Regs → Regs
go_if b a r = cond b (with_place a r) r

-- a number modulo 2^48; V is set if it left the range of a word
abbrev pub push_number : ℤ → Regs → Regs
push_number z r = overflow_if (outside 48 z) (push (wrap 48 z) r)
