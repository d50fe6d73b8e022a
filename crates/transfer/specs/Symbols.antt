-- Symbols between a device and words. A device is given as a bank has it: its meaning, or nothing.
use Rattle.std.specs.Prelude.{ℕ, zero, suc, ◌+◌, ◌*◌, ◌/◌, ◌%◌, ◌^◌, Bool, cond, ◌&&◌, List, [], ◌∷◌, ◌++◌, drop, Some, None, Ok, Err, Option, Result, ◌==◌, slice_index, slice_set}
use Prim.Native.String.{String}
use Rattle.device.specs.Meaning.{Meaning, read_answer, read_after, write_answer, write_after}
use Rattle.device.specs.Bank.{Devices, standing, answer_of, after_of}
use Rattle.device.specs.Words.{words}
use Rattle.transfer.specs.declared.part.Stop.{Stop as Stopped}
use Rattle.transfer.specs.declared.part.Stop.TheVariants.{EndMessage, Refused}

-- why a movement of symbols ended: all of them were moved, End Message was, or the device refused
pub data Stop : Type 0 where
  all : Stop
  message_end : Stop
  refused : (why : String) → Stop

-- why the code says that it ended, in the words of the refusal
abbrev pub stop_of : Option Stopped → Stop
stop_of None = all
stop_of (Some EndMessage) = message_end
stop_of (Some (Refused e)) = refused (words e)

-- a bank after f was done to what stands on one of its buffers
abbrev pub on_buffer : (Option Meaning → Option Meaning) → Devices → ℕ → Devices
on_buffer f b n = slice_set b n (f (standing b n))

-- whether a symbol ends the movement: it does so where End Message is heeded
abbrev pub ending : Bool → ℕ → Bool
ending ends s = ends && s == 61

-- what reading gave: the symbols, why it ended, and the device then
pub record Run : Type 0 where
  pub symbols : List ℕ
  pub stop : Stop
  pub device : Option Meaning

-- a run with one symbol more in front
abbrev pub behind : ℕ → Run → Run
behind s r = record { symbols = s ∷ r.symbols; stop = r.stop; device = r.device }

-- after the first answer: End Message that is heeded, or a refusal, ends the run; any other symbol stands before what follows
abbrev pub go_on : Bool → Result ℕ String → Option Meaning → Run → Run
go_on ends (Ok s) d r = cond (ending ends s) (record { symbols = s ∷ []; stop = message_end; device = d }) (behind s r)
go_on ends (Err e) d r = record { symbols = []; stop = refused e; device = d }

-- at most k symbols read, one after another
unfoldable pub gather : Bool → ℕ → Option Meaning → Run
gather ends zero d = record { symbols = []; stop = all; device = d }
gather ends (suc k) d =
    go_on ends (answer_of read_answer d) (after_of read_after d) (gather ends k (after_of read_after d))

-- what writing gave: how many symbols were moved, why it ended, and the device then
pub record Sent : Type 0 where
  pub moved : ℕ
  pub stop : Stop
  pub device : Option Meaning

-- one symbol more
abbrev pub one_more : Sent → Sent
one_more r = record { moved = r.moved + 1; stop = r.stop; device = r.device }

-- after the first symbol was written or refused
abbrev pub send_on : Bool → ℕ → Result (Unit {0}) String → Option Meaning → Sent → Sent
send_on ends s (Ok u) d r = cond (ending ends s) (record { moved = 1; stop = message_end; device = d }) (one_more r)
send_on ends s (Err e) d r = record { moved = 0; stop = refused e; device = d }

-- these symbols written, one after another
unfoldable pub send : Bool → List ℕ → Option Meaning → Sent
send ends [] d = record { moved = 0; stop = all; device = d }
send ends (s ∷ ss) d =
    send_on ends s (answer_of write_answer d) (after_of (λ m. write_after m s) d) (send ends ss (after_of (λ m. write_after m s) d))

-- a word of the first k symbols, six bits each, highest first, filled up with zeros
unfoldable pub packed : ℕ → List ℕ → ℕ
packed zero ss = 0
packed (suc k) [] = 0
packed (suc k) (s ∷ ss) = s * 2 ^ (6 * k) + packed k ss

-- the lowest k symbols of a word, highest first
unfoldable pub unpacked : ℕ → ℕ → List ℕ
unpacked zero w = []
unpacked (suc k) w = w / 2 ^ (6 * k) % 64 ∷ unpacked k w

-- a word into which these symbols, at most eight, were read: with none it stays
abbrev pub filled : ℕ → List ℕ → ℕ
filled w [] = w
filled w (s ∷ ss) = packed 8 (s ∷ ss)

-- an area with these symbols in its words from a on, eight to a word, and at most n words. The last word that has
-- a symbol is filled up with zeros, and the words behind it stay.
unfoldable pub stored : ℕ → ℕ → List ℕ → List ℕ → List ℕ
stored zero a ss area = area
stored (suc n) a [] area = area
stored (suc n) a (s ∷ ss) area = stored n (a + 1) (drop 8 (s ∷ ss)) (slice_set area a (packed 8 (s ∷ ss)))

-- the symbols of n words of an area from a on
unfoldable pub spread : ℕ → ℕ → List ℕ → List ℕ
spread zero a area = []
spread (suc n) a area = unpacked 8 (slice_index area a) ++ spread n (a + 1) area

-- the refusal that ended a movement, if one did
abbrev pub why : Stop → Option String
why all = None
why message_end = None
why (refused e) = Some e
