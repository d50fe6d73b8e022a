-- Why a turn ended.
--
-- Cause        a broken bound (LIV, NOUV or LOV, by the bound), DEV with the buffer, the device's refusal and the symbols moved,
--              OUT with its word, or COUNT
-- Ending       a cause with the slot and the place that it names
-- Report       what handing back answers: the ending, and the count of orders done
-- cause_name   what a person reads
use Rattle.std.specs.Prelude.{ℕ, Some, None, Option}
use Prim.Native.String.{String}
use Rattle.device.specs.Words.{words}
use Rattle.outlook.specs.Words.{violation_of, violation_name}
use Rattle.outlook.specs.declared.bound.Bound.{Bound}
use Rattle.host.specs.declared.cause.Cause.{Cause as ToldCause}
use Rattle.host.specs.declared.cause.Cause.TheVariants as told
use Rattle.host.specs.declared.cause.Ending.{Ending as ToldEnding}
use Rattle.host.specs.declared.cause.Report.{Report as ToldReport}

pub data Cause : Type 0 where
  broken : (bound : Bound) → Cause
  dev : (buffer : ℕ) (why : String) (moved : ℕ) → Cause
  out : (word : ℕ) → Cause
  count : Cause

pub record Ending : Type 0 where
  pub slot : ℕ
  pub place : ℕ
  pub cause : Cause

pub record Report : Type 0 where
  pub ending : Ending
  pub orders : ℕ

abbrev pub cause_name : Cause → String
cause_name (broken b) = violation_name (violation_of b)
cause_name (dev buffer why moved) = "DEV"
cause_name (out word) = "OUT"
cause_name count = "COUNT"

-- the same, as the code answers it
abbrev pub cause_of : ToldCause → Cause
cause_of (told.Broken b) = broken b
cause_of (told.Device buffer refusal moved) = dev buffer (words refusal) moved
cause_of (told.Out w) = out w.bits
cause_of told.Count = count

abbrev pub ending_of : ToldEnding → Ending
ending_of e = record { slot = e.slot; place = e.place; cause = cause_of e.cause }

abbrev pub endings_of : Option ToldEnding → Option Ending
endings_of None = None
endings_of (Some e) = Some (ending_of e)

abbrev pub report_of : ToldReport → Report
report_of r = record { ending = ending_of r.ending; orders = r.orders }
