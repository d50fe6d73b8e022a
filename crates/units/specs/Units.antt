-- The units that can be plugged, each by the meaning that it has, and what filling a tape reader does.
--
-- reader_of, punch_of, drum_of    the meaning of a unit, by what it holds
-- fill_answer, filled             filling a reader with frames: the answer, and the meaning after it
use Rattle.std.specs.Prelude.{ℕ, true, false, cond, List, map, length, Ok, Err, Result, nat_le}
use Rattle.device.specs.Meaning.{Meaning}
use Rattle.device.specs.declared.refusal.NotWriting.TheVariants.{WrongWay}
use Rattle.units.specs.Frames.{cell_of}

-- a tape reader only reads
abbrev pub reader_of : List ℕ → ℕ → Meaning
reader_of cells head = record { cells = cells; head = head; capacity = 4096; reads = true; seeks = false; writing = Err WrongWay }

-- a punch only writes, and its head stands behind the last cell
abbrev pub punch_of : List ℕ → Meaning
punch_of cells = record { cells = cells; head = length cells; capacity = 4096; reads = false; seeks = false; writing = Ok tt }

-- a drum holds 512 words of eight symbols, and does everything
abbrev pub drum_of : List ℕ → ℕ → Meaning
drum_of cells head = record { cells = cells; head = head; capacity = 4096; reads = true; seeks = true; writing = Ok tt }

-- more than 4096 frames are refused by number 6, and change nothing; others replace the cells and set the head to 0
abbrev pub fill_answer : List ℕ → Result (Unit {0}) ℕ
fill_answer frames = cond (nat_le (length frames) 4096) (Ok tt) (Err 6)

abbrev pub filled : List ℕ → Meaning → Meaning
filled frames m = cond (nat_le (length frames) 4096) (reader_of (map cell_of frames) 0) m
