-- What a device means, and what reading, writing and seeking do to that meaning.
--
-- Meaning        all that a program can learn of a device: its cells, its head, its capacity, and what it is able to do
-- Sound          what holds of every meaning
-- read_answer, write_answer, seek_answer, head_answer    what a call answers: a value, or the words of a refusal
-- read_after, write_after, seek_after                    the meaning after that call
use Rattle.std.specs.Prelude.{ℕ, ◌+◌, ◌%◌, ◌<◌, ◌≤◌, Bool, true, false, cond, not, ◌&&◌, List, [], ◌∷◌, ◌++◌, length, Ok, Err, Result, ◌==◌, nat_le, nat_lt, slice_index, slice_set}
use Prim.Native.String.{String}
use Rattle.device.specs.declared.refusal.NotWriting.{NotWriting}
use Rattle.device.specs.declared.refusal.NotWriting.TheVariants.{WrongWay, NoRing}

-- a cell is a symbol 0 to 63, or 64 for a damaged frame; the head is the number of the next cell
pub record Meaning : Type 0 where
  pub cells : List ℕ
  pub head : ℕ
  pub capacity : ℕ
  pub reads : Bool
  pub seeks : Bool
  pub writing : Result (Unit {0}) NotWriting

-- each of xs is below n
abbrev pub Below : ℕ → List ℕ → Type 0
Below n xs = (k : ℕ) → slice_index xs k < n

-- what holds of every meaning
pub record Sound (m : Meaning) : Type 0 where
  pub cells_small : Below 65 m.cells
  pub head_within : m.head ≤ length m.cells
  pub cells_fit : length m.cells ≤ m.capacity
  pub capacity_small : m.capacity ≤ 4096

-- the cell under the head
abbrev pub under_head : Meaning → ℕ
under_head m = slice_index m.cells m.head

-- the same device with its head elsewhere
abbrev pub moved : Meaning → ℕ → Meaning
moved m h = record { cells = m.cells; head = h; capacity = m.capacity; reads = m.reads; seeks = m.seeks; writing = m.writing }

-- Reading is refused where the device does not read, then at the end of the cells. A damaged cell is refused and
-- passed; any other cell is answered and passed.
abbrev pub read_answer : Meaning → Result ℕ String
read_answer m =
    cond m.reads
    (cond (nat_lt m.head (length m.cells))
    (cond (under_head m == 64) (Err "damaged") (Ok (under_head m)))
    (Err "no more"))
    (Err "wrong way")

abbrev pub read_after : Meaning → Meaning
read_after m = moved m (cond (m.reads && nat_lt m.head (length m.cells)) (m.head + 1) m.head)

-- cells with the cell at h replaced, or added at their end
abbrev pub put : List ℕ → ℕ → ℕ → List ℕ
put cells h s = cond (nat_lt h (length cells)) (slice_set cells h s) (cells ++ (s ∷ []))

-- Writing is refused by the words of `writing`, then "full" where the head equals the capacity. Otherwise the cell at
-- the head is replaced or added, modulo 64, and passed.
abbrev pub writable : Result (Unit {0}) NotWriting → Bool
writable (Ok u) = true
writable (Err why) = false

-- why a write was refused
abbrev pub refused_write : Result (Unit {0}) NotWriting → String
refused_write (Ok u) = "full"
refused_write (Err WrongWay) = "wrong way"
refused_write (Err NoRing) = "no ring"

-- whether a write is taken
abbrev pub takes : Meaning → Bool
takes m = writable m.writing && not (m.head == m.capacity)

abbrev pub write_answer : Meaning → Result (Unit {0}) String
write_answer m = cond (takes m) (Ok tt) (Err (refused_write m.writing))

abbrev pub write_after : Meaning → ℕ → Meaning
write_after m s = record {
  cells = cond (takes m) (put m.cells m.head (s % 64)) m.cells;
  head = cond (takes m) (m.head + 1) m.head;
  capacity = m.capacity;
  reads = m.reads;
  seeks = m.seeks;
  writing = m.writing;
}

-- Seeking is refused where the device does not seek, then beyond the number of cells. Otherwise the head is set.
abbrev pub seek_answer : Meaning → ℕ → Result (Unit {0}) String
seek_answer m c =
    cond m.seeks (cond (nat_le c (length m.cells)) (Ok tt) (Err "no such cell")) (Err "wrong way")

abbrev pub seek_after : Meaning → ℕ → Meaning
seek_after m c = moved m (cond (m.seeks && nat_le c (length m.cells)) c m.head)

-- Asking for the head is never refused and changes nothing.
abbrev pub head_answer : Meaning → Result ℕ String
head_answer m = Ok m.head
