-- What a layer makes of the meaning of the device below it.
--
-- ring_taken       what ring-off makes of writing: that it writes becomes no ring
-- without_ring     a device whose ring is off
-- occurs           how often a symbol stands in a table
-- each_below       whether each number below some number passes a test
-- fit              whether a table holds 0 to 63 once each
-- seen, changed    a cell, and a device, seen through a table
use Rattle.std.specs.Prelude.{ℕ, zero, suc, Bool, true, cond, ◌&&◌, List, map, count_by, Ok, Err, Result, ◌==◌, nat_eq, slice_index}
use Rattle.device.specs.Meaning.{Meaning}
use Rattle.device.specs.declared.refusal.NotWriting.{NotWriting}
use Rattle.device.specs.declared.refusal.NotWriting.TheVariants.{NoRing}

abbrev pub ring_taken : Result (Unit {0}) NotWriting → Result (Unit {0}) NotWriting
ring_taken (Ok u) = Err NoRing
ring_taken (Err why) = Err why

abbrev pub without_ring : Meaning → Meaning
without_ring m = record { cells = m.cells; head = m.head; capacity = m.capacity; reads = m.reads; seeks = m.seeks; writing = ring_taken m.writing }

abbrev pub occurs : ℕ → List ℕ → ℕ
occurs s xs = count_by (λ x. x == s) xs

-- each number below n passes a test
unfoldable pub each_below : ℕ → (ℕ → Bool) → Bool
each_below zero test = true
each_below (suc n) test = test n && each_below n test

abbrev pub fit : List ℕ → Bool
fit table = each_below 64 (λ s. nat_eq (occurs s table) 1)

-- 64, a damaged frame, stays
abbrev pub seen : List ℕ → ℕ → ℕ
seen table c = cond (c == 64) 64 (slice_index table c)

abbrev pub changed : List ℕ → Meaning → Meaning
changed table m = record { cells = map (seen table) m.cells; head = m.head; capacity = m.capacity; reads = m.reads; seeks = m.seeks; writing = m.writing }
