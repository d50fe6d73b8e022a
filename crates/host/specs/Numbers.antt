-- What a host's call answers.
--
-- number_of    the number of each refusal
-- words        what is wrong, for a person
-- Answer       granted; a turn's report; or refused by a number
-- answered, reported    the same, as the code answers it
-- refused_by       the number of the refusal of a check that fails
use Rattle.std.specs.Prelude.{ℕ, Some, None, Ok, Err, Option, Result}
use Prim.Native.String.{String}
use Rattle.host.specs.Causes.{Report, report_of}
use Rattle.host.specs.declared.cause.Report.{Report as ToldReport}
use Rattle.host.specs.declared.refusal.Refusal.{Refusal}
use Rattle.host.specs.declared.refusal.Refusal.TheVariants.{SlotOver3, BufferOver15, AreaShape, AreaPast, ImageLong, SlotInUse, AreaOverlaps, SlotEmpty, BufferTaken, NothingThere, BufferBusy, NotBusy, SlotStopped, StoreShort}

abbrev pub number_of : Refusal → ℕ
number_of SlotOver3 = 1
number_of BufferOver15 = 2
number_of AreaShape = 3
number_of AreaPast = 4
number_of ImageLong = 5
number_of SlotInUse = 8
number_of AreaOverlaps = 9
number_of SlotEmpty = 10
number_of BufferTaken = 11
number_of NothingThere = 12
number_of BufferBusy = 13
number_of NotBusy = 14
number_of SlotStopped = 15
number_of StoreShort = 16

abbrev pub words : Refusal → String
words SlotOver3 = "slot is over 3"
words BufferOver15 = "buffer is over 15"
words AreaShape = "base or size is no multiple of 32, or size is 0"
words AreaPast = "area passes the end of the store or word 32768"
words ImageLong = "image is longer than 6 bytes for each word of the area"
words SlotInUse = "slot is in use"
words AreaOverlaps = "area overlaps another"
words SlotEmpty = "slot is empty"
words BufferTaken = "buffer is taken"
words NothingThere = "nothing stands on the buffer"
words BufferBusy = "a buffer of the slot is busy"
words NotBusy = "buffer is not busy"
words SlotStopped = "slot is stopped"
words StoreShort = "store ends before the area"

pub data Answer : Type 0 where
  granted : Answer
  ended : (report : Report) → Answer
  refused : (number : ℕ) → Answer

-- of a load, an allotment, an end or a dismissal
abbrev pub answered : Result (Unit {0}) Refusal → Answer
answered (Ok u) = granted
answered (Err r) = refused (number_of r)

-- of a turn
abbrev pub reported : Result ToldReport Refusal → Answer
reported (Ok r) = ended (report_of r)
reported (Err r) = refused (number_of r)

abbrev pub refused_by : Result (Unit {0}) Refusal → Option ℕ
refused_by (Ok u) = None
refused_by (Err r) = Some (number_of r)
