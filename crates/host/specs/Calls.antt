-- The host's calls: when each is refused, and what it does; and runs of any calls from a machine's making.
--
-- Call         a call, with its operands
-- checks       the checks of a call by rising number, each with whether it turns the call down
-- image_words  an area as a load leaves it: six bytes of the image to a word, the top byte first, and zeros after the image
-- grant        what a granted call does and answers
-- perform      a call: the first check that fails answers its number and nothing changes; else it is granted
-- made         a machine as it is made, over any store and any bank
-- Moment       one call of a run: the world before, the call, its answer, and the world after
-- run          the calls of a list carried out one after another; left: the world that they leave
use Rattle.std.specs.Prelude.{ℕ, ◌+◌, ◌*◌, ◌%◌, Bool, true, false, cond, not, ◌&&◌, ◌||◌, List, [], ◌∷◌, map, length, is_some, Some, None, Option, ◌==◌, nat_lt, slice_index}
use Rattle.std.specs.List.{range_with_len}
use Rattle.device.specs.Meaning.{Meaning}
use Rattle.registers.specs.Registers.{no_regs}
use Rattle.buffers.specs.declared.buffer.Buffer.{Buffer}
use Rattle.buffers.specs.declared.buffer.Work.TheVariants.{Idle}
use Rattle.buffers.specs.Buffers.{free, is_busy, any_below, busy_of, with_work, with_owner, released}
use Rattle.program.specs.Kept.{update}
use Rattle.host.specs.World.{World, Program, put_part, own_in, put}
use Rattle.host.specs.Causes.{Report}
use Rattle.host.specs.Turns.{Turn, orders, stop_or_count}
use Rattle.host.specs.Numbers.{Answer}
use Rattle.host.specs.Numbers.Answer.{granted, ended, refused}

pub data Call : Type 0 where
  load : (slot base size : ℕ) (image : List ℕ) → Call
  allot : (slot buffer : ℕ) → Call
  turn : (slot orders : ℕ) → Call
  end : (buffer : ℕ) → Call
  dismiss : (slot : ℕ) → Call

-- whether the area of a base and a size has a word in common with that of a slot
abbrev pub meets : ℕ → ℕ → Option Program → Bool
meets base size None = false
meets base size (Some g) = nat_lt base (g.base + g.size) && nat_lt g.base (base + size)

abbrev pub overlaps : (ℕ → Option Program) → ℕ → ℕ → Bool
overlaps slots base size = any_below 4 (λ p. meets base size (slots p))

-- no multiple of 32, or no word
abbrev pub unshaped : ℕ → ℕ → Bool
unshaped base size = not (base % 32 == 0) || (not (size % 32 == 0) || size == 0)

-- past the store or past word 32,768
abbrev pub past : ℕ → ℕ → ℕ → Bool
past words base size = nat_lt words (base + size) || nat_lt 32768 (base + size)

-- whether a slot is stopped, and whether the store ends before its area
abbrev pub is_stopped : Option Program → Bool
is_stopped None = false
is_stopped (Some g) = not g.ready

abbrev pub cut_off : ℕ → Option Program → Bool
cut_off words None = false
cut_off words (Some g) = nat_lt words (g.base + g.size)

-- the checks of a step, and so of a turn
abbrev pub step_checks : ℕ → World → List (ℕ × Bool)
step_checks p w =
    (1, nat_lt 3 p)
    ∷ (10, not (is_some (w.slots p)))
    ∷ (15, is_stopped (w.slots p))
    ∷ (16, cut_off (length w.store) (w.slots p))
    ∷ []

abbrev pub checks : Call → World → List (ℕ × Bool)
checks (load p base size image) w =
    (1, nat_lt 3 p)
    ∷ (3, unshaped base size)
    ∷ (4, past (length w.store) base size)
    ∷ (5, nat_lt (6 * size) (length image))
    ∷ (8, is_some (w.slots p))
    ∷ (9, overlaps w.slots base size)
    ∷ []
checks (allot p n) w =
    (1, nat_lt 3 p)
    ∷ (2, nat_lt 15 n)
    ∷ (10, not (is_some (w.slots p)))
    ∷ (11, is_some (w.buffers n).owner)
    ∷ (12, not (is_some (w.bank n)))
    ∷ []
checks (turn p n) w = step_checks p w
checks (end n) w = (2, nat_lt 15 n) ∷ (14, not (is_busy (w.buffers n).work)) ∷ []
checks (dismiss p) w = (1, nat_lt 3 p) ∷ (10, not (is_some (w.slots p))) ∷ (13, busy_of p w.buffers) ∷ []

-- the number of the first check that turns a call down
abbrev pub first_failing : List (ℕ × Bool) → Option ℕ
first_failing [] = None
first_failing (c ∷ cs) = cond c.1 (Some c.0) (first_failing cs)

abbrev pub refusal : Call → World → Option ℕ
refusal c w = first_failing (checks c w)

abbrev pub image_word : List ℕ → ℕ → ℕ
image_word image k =
    ((((slice_index image (6 * k) * 256 + slice_index image (6 * k + 1)) * 256 + slice_index image (6 * k + 2)) * 256
    + slice_index image (6 * k + 3)) * 256 + slice_index image (6 * k + 4)) * 256 + slice_index image (6 * k + 5)

unfoldable pub image_words : List ℕ → ℕ → List ℕ
image_words image size = map (image_word image) (range_with_len 0 size)

-- a program as it is loaded: ready, its registers empty or zero
abbrev pub fresh : ℕ → ℕ → Program
fresh base size = record { base = base; size = size; regs = no_regs; ready = true }

unfoldable pub loaded : ℕ → ℕ → ℕ → List ℕ → World → World
loaded p base size image w = record {
  store = put_part base (image_words image size) w.store;
  slots = update w.slots p (Some (fresh base size));
  buffers = w.buffers;
  bank = w.bank;
}

abbrev pub with_buffer : ℕ → Buffer → World → World
with_buffer n b w = record { store = w.store; slots = w.slots; buffers = update w.buffers n b; bank = w.bank }

-- the slot's buffers become free; the words of its area stay
unfoldable pub dismissed : ℕ → World → World
dismissed p w = record { store = w.store; slots = update w.slots p None; buffers = λ n. released p (w.buffers n); bank = w.bank }

-- what a turn answers
abbrev pub turn_report : ℕ → Turn → Report
turn_report p t = record {
  ending = record {
    slot = p;
    place = (stop_or_count t.stop t.own.regs.place).place;
    cause = (stop_or_count t.stop t.own.regs.place).cause;
  };
  orders = t.orders;
}

unfoldable pub turned : ℕ → ℕ → World → Option Program → World × Answer
turned p n w None = (w, refused 10)
turned p n w (Some g) = (put p g (orders n (own_in p g w)).own w, ended (turn_report p (orders n (own_in p g w))))

abbrev pub grant : Call → World → World × Answer
grant (load p base size image) w = (loaded p base size image w, granted)
grant (allot p n) w = (with_buffer n (with_owner p (w.buffers n)) w, granted)
grant (turn p n) w = turned p n w (w.slots p)
grant (end n) w = (with_buffer n (with_work Idle (w.buffers n)) w, granted)
grant (dismiss p) w = (dismissed p w, granted)

abbrev pub by_check : Call → World → Option ℕ → World × Answer
by_check c w (Some n) = (w, refused n)
by_check c w None = grant c w

abbrev pub perform : Call → World → World × Answer
perform c w = by_check c w (refusal c w)

abbrev pub made : List ℕ → (ℕ → Option Meaning) → World
made store bank = record { store = store; slots = λ p. None; buffers = λ n. free; bank = bank }

pub record Moment : Type 0 where
  pub before : World
  pub call : Call
  pub answer : Answer
  pub after : World

abbrev pub moment : Call → World → Moment
moment c w = record { before = w; call = c; answer = (perform c w).1; after = (perform c w).0 }

unfoldable pub run : World → List Call → List Moment
run w [] = []
run w (c ∷ cs) = moment c w ∷ run (perform c w).0 cs

unfoldable pub left : World → List Call → World
left w [] = w
left w (c ∷ cs) = left (perform c w).0 cs
