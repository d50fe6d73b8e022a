-- What trying an order came to.
--
-- Told    done, with how many symbols were moved; the first bound that it broke; the buffer, a device's refusal and how many symbols
--         were moved before it; or OUT's word
-- told    the same, as the code answers it
use Rattle.std.specs.Prelude.{ℕ}
use Prim.Native.String.{String}
use Rattle.device.specs.Words.{words}
use Rattle.outlook.specs.declared.bound.Bound.{Bound}
use Rattle.program.specs.declared.outcome.Outcome.{Outcome}
use Rattle.program.specs.declared.outcome.Outcome.TheVariants.{Done, Broke, Refused, Out}

pub data Told : Type 0 where
  done : (moved : ℕ) → Told
  broke : (bound : Bound) → Told
  refused : (buffer : ℕ) (why : String) (moved : ℕ) → Told
  out : (word : ℕ) → Told

abbrev pub told : Outcome → Told
told (Done moved) = done moved
told (Broke b) = broke b
told (Refused buffer refusal moved) = refused buffer (words refusal) moved
told (Out w) = out w.bits
