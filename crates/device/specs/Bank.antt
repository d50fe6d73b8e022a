-- What a bank means: for each buffer 0 to 15 a device's meaning or nothing; and what its calls do.
--
-- Devices                      the meaning of a bank
-- Whole                        what holds of every bank's meaning
-- standing                     the device on a number, or nothing
-- no_devices                   the empty bank
-- answer_of, after_of          a call of what stands on a number: what it answers, and what stands there after it
-- bank_answer, bank_after      a call at a number: what it answers, and the bank after it
-- plugged                      a bank with a device on a number, hiding what stood there
use Rattle.std.specs.Prelude.{◌≡◌, ℕ, List, length, replicate, IfSome, Some, None, Err, Option, Result, slice_index_or, slice_set}
use Prim.Native.String.{String}
use Rattle.device.specs.Meaning.{Meaning, Sound}

abbrev pub Devices : Type 0
Devices = List (Option Meaning)

pub record Whole (b : Devices) : Type 0 where
  pub sixteen : length b ≡ 16
  pub each_sound : (n : ℕ) → IfSome (slice_index_or b n None) Sound

-- what stands on a number; past the last buffer there is nothing
abbrev pub standing : Devices → ℕ → Option Meaning
standing b n = slice_index_or b n None

abbrev pub no_devices : Devices
no_devices = replicate 16 None

-- the answer of the device that stands there, or the refusal where there is none
abbrev pub answer_of : {A : Type 0} → (Meaning → Result A String) → Option Meaning → Result A String
answer_of f None = Err "nothing there"
answer_of f (Some m) = f m

-- what stands there after a call
abbrev pub after_of : (Meaning → Meaning) → Option Meaning → Option Meaning
after_of f None = None
after_of f (Some m) = Some (f m)

abbrev pub bank_answer : {A : Type 0} → (Meaning → Result A String) → Devices → ℕ → Result A String
bank_answer f b n = answer_of f (standing b n)

abbrev pub bank_after : (Meaning → Meaning) → Devices → ℕ → Devices
bank_after f b n = slice_set b n (after_of f (standing b n))

abbrev pub plugged : Devices → ℕ → Meaning → Devices
plugged b n m = slice_set b n (Some m)
