-- Reading a device out and writing symbols in, on a buffer of any bank. What stands on the buffer is a device's
-- meaning, or nothing.
--
-- unread                  the cells that reading on would pass: those from the head on, of a device that reads
-- sound_cells             the symbols among some cells
-- damaged_cells           the numbers of the damaged ones, the first cell having the number n
-- stop_of, run_out        the words with which reading on stops, and the device then: its head behind the last cell
-- CopiesReadBack        a copy read again gives the symbols that were copied
-- Written, written        writing symbols up to the first refusal: how many were taken, the refusal, and the device then
use Rattle.std.specs.Prelude.{◌≡◌, ℕ, ◌+◌, ◌%◌, cond, List, [], ◌∷◌, map, length, drop, Some, None, Ok, Err, Option, Result, ◌==◌}
use Prim.Native.String.{String}
use Rattle.units.specs.Frames.{cell_of, frame_for}
use Rattle.device.specs.Meaning.{Meaning, Below, moved, write_answer, write_after}
use Rattle.device.specs.Bank.{answer_of, after_of}

abbrev pub unread : Option Meaning → List ℕ
unread None = []
unread (Some m) = cond m.reads (drop m.head m.cells) []

unfoldable pub sound_cells : List ℕ → List ℕ
sound_cells [] = []
sound_cells (c ∷ cs) = cond (c == 64) (sound_cells cs) (c ∷ sound_cells cs)

unfoldable pub damaged_cells : ℕ → List ℕ → List ℕ
damaged_cells n [] = []
damaged_cells n (c ∷ cs) = cond (c == 64) (n ∷ damaged_cells (n + 1) cs) (damaged_cells (n + 1) cs)

abbrev pub stop_of : Option Meaning → String
stop_of None = "nothing there"
stop_of (Some m) = cond m.reads "no more" "wrong way"

abbrev pub run_out : Option Meaning → Option Meaning
run_out None = None
run_out (Some m) = Some (moved m (cond m.reads (length m.cells) m.head))

pub record Written : Type 0 where
  pub count : ℕ
  pub refusal : Option String
  pub device : Option Meaning

-- after one symbol: the rest is written, or the refusal ends it
abbrev pub write_on : Result (Unit {0}) String → Option Meaning → Written → Written
write_on (Ok u) d rest = record { count = rest.count + 1; refusal = rest.refusal; device = rest.device }
write_on (Err e) d rest = record { count = 0; refusal = Some e; device = d }

unfoldable pub written : List ℕ → Option Meaning → Written
written [] d = record { count = 0; refusal = None; device = d }
written (s ∷ ss) d = write_on (answer_of write_answer d) (after_of (λ m. write_after m s) d) (written ss (after_of (λ m. write_after m s) d))

-- what is read of the frames that are punched for symbols is those symbols
abbrev pub CopiesReadBack : Type 0
CopiesReadBack = (symbols : List ℕ) → Below 64 symbols → map cell_of (map (λ s. frame_for (s % 64)) symbols) ≡ symbols
