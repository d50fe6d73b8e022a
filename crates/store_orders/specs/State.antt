-- The registers and the area of a program, and the moves between them that the orders are made of.
--   State        what the registers hold, and the entries of the area
--   word_at      the word at an address: its entry modulo 2^48
--   fetch, put   the word at an address onto the nest, and N1 into it
--   fetch_half, put_half   likewise one half of the word; on the nest a half is the upper 24 bits, over zeros
--   stepped      M+I and DC, on Q number q
use Rattle.std.specs.Prelude.{ℕ, ◌%◌, ◌^◌, Bool, cond, List, slice_index, slice_set}
use Rattle.word.specs.Halves.{upper_half, lower_half, with_upper, with_lower}
use Rattle.word.specs.Qs.{advanced, counted_down}
use Rattle.registers.specs.Registers.{Regs, N1, push, pop, q_of, put_q}

pub record State : Type 0 where
  pub regs : Regs
  pub area : List ℕ

abbrev pub state : Regs → List ℕ → State
state r xs = record { regs = r; area = xs }

-- a change of the registers alone
abbrev pub on_regs : (Regs → Regs) → State → State
on_regs f s = state (f s.regs) s.area

abbrev pub word_at : ℕ → State → ℕ
word_at a s = slice_index s.area a % 2 ^ 48

abbrev pub fetch : ℕ → State → State
fetch a s = on_regs (push (word_at a s)) s

-- N1 is removed, and x becomes the entry
abbrev pub stored : ℕ → ℕ → State → State
stored a x s = state (pop s.regs) (slice_set s.area a x)

abbrev pub put : ℕ → State → State
put a s = stored a (N1 s.regs) s

-- the upper half if b, else the lower one
abbrev pub fetch_half : Bool → ℕ → State → State
fetch_half b a s = on_regs (push (cond b (upper_half (word_at a s)) (lower_half (word_at a s)))) s

abbrev pub put_half : Bool → ℕ → State → State
put_half b a s = stored a (cond b (with_upper (N1 s.regs) (word_at a s)) (with_lower (N1 s.regs) (word_at a s))) s

abbrev pub stepped : ℕ → Regs → Regs
stepped q r = put_q q (counted_down (advanced (q_of q r))) r
