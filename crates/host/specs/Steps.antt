-- A turn by single steps: entering, stepping and handing back, with the token that stands for the turn.
--
-- tried_by      the order of the program in a slot is tried
-- Token         a turn: the slot that was entered, the ending where a cause has come, and the count of orders done
-- entered       a turn as it begins
-- stepped       one step: after a cause the same again; else the first check that fails; else the order at the program's place is tried
-- handed_back   what handing back answers
-- steps         n steps one after another
use Rattle.std.specs.Prelude.{ℕ, zero, suc, ◌+◌, ◌-◌, ◌^◌, min, cond, Some, None, Ok, Err, Option, Result, nat_lt}
use Rattle.outlook.specs.Own.{Own}
use Rattle.outlook.specs.declared.bound.Bound.TheVariants.{Place}
use Rattle.program.specs.Told.{Told}
use Rattle.program.specs.Told.Told.{broke}
use Rattle.host.specs.World.{World, Program, own_in, put}
use Rattle.host.specs.Causes.{Cause, Ending, Report, endings_of}
use Rattle.host.specs.Causes.Cause.{count}
use Rattle.host.specs.Turns.{try, cause_by, done_by, left_by}
use Rattle.host.specs.Numbers.{number_of}
use Rattle.host.specs.Calls.{step_checks, first_failing}
use Rattle.host.specs.declared.cause.Ending.{Ending as ToldEnding}
use Rattle.host.specs.declared.refusal.Refusal.{Refusal}

-- an order of the program in a slot tried: what the world is then, and what it came to. Without a program nothing is tried
abbrev pub tried_by : ℕ → World → Option Program → World × Told
tried_by p w None = (w, broke Place)
tried_by p w (Some g) = (put p g (try (own_in p g w)).0 w, (try (own_in p g w)).1)

pub record Token : Type 0 where
  pub slot : ℕ
  pub ending : Option Ending
  pub orders : ℕ

abbrev pub entered : ℕ → Token
entered p = record { slot = p; ending = None; orders = 0 }

-- what a step answers: the cause of the turn if it has one now, or a refusal by number
pub data StepAnswer : Type 0 where
  goes_on : StepAnswer
  gave : (ending : Ending) → StepAnswer
  turned_down : (number : ℕ) → StepAnswer

abbrev pub by_ending : Option Ending → StepAnswer
by_ending None = goes_on
by_ending (Some e) = gave e

-- the same, as the code answers it
abbrev pub step_told : Result (Option ToldEnding) Refusal → StepAnswer
step_told (Ok e) = by_ending (endings_of e)
step_told (Err r) = turned_down (number_of r)

pub record Stepped : Type 0 where
  pub world : World
  pub token : Token
  pub answer : StepAnswer

-- the count of orders stays at 2^64 - 1
abbrev pub counted : ℕ → ℕ → ℕ
counted n more = min (n + more) (2 ^ 64 - 1)

abbrev pub ending_at : ℕ → ℕ → Option Cause → Option Ending
ending_at slot place None = None
ending_at slot place (Some c) = Some (record { slot = slot; place = place; cause = c })

-- the token once an order at a place was tried
abbrev pub told_of : Token → ℕ → Told → Token
told_of t place x = record {
  slot = t.slot;
  ending = ending_at t.slot place (cause_by x);
  orders = counted t.orders (done_by x);
}

abbrev pub tried_in : Token → World → Program → Own × Told → Stepped
tried_in t w g r = record {
  world = put t.slot g (left_by r) w;
  token = told_of t g.regs.place r.1;
  answer = by_ending (told_of t g.regs.place r.1).ending;
}

abbrev pub step_in : Token → World → Option Program → Stepped
step_in t w None = record { world = w; token = t; answer = turned_down 10 }
step_in t w (Some g) = tried_in t w g (try (own_in t.slot g w))

abbrev pub step_checked : Token → World → Option ℕ → Stepped
step_checked t w (Some n) = record { world = w; token = t; answer = turned_down n }
step_checked t w None = step_in t w (w.slots t.slot)

abbrev pub step_on : Option Ending → Token → World → Stepped
step_on (Some e) t w = record { world = w; token = t; answer = gave e }
step_on None t w = step_checked t w (first_failing (step_checks t.slot w))

unfoldable pub stepped : Token → World → Stepped
stepped t w = step_on t.ending t w

-- the place of the program in a slot; 0 without a program, and for a number over 3
abbrev pub place_in : Option Program → ℕ
place_in None = 0
place_in (Some g) = g.regs.place

abbrev pub place_of : (ℕ → Option Program) → ℕ → ℕ
place_of slots p = cond (nat_lt 3 p) 0 (place_in (slots p))

abbrev pub ending_or_count : Option Ending → ℕ → ℕ → Ending
ending_or_count (Some e) slot place = e
ending_or_count None slot place = record { slot = slot; place = place; cause = count }

abbrev pub handed_back : Token → World → Report
handed_back t w = record {
  ending = ending_or_count t.ending t.slot (place_of w.slots t.slot);
  orders = t.orders;
}

unfoldable pub steps : ℕ → Token → World → World × Token
steps zero t w = (w, t)
steps (suc n) t w = ((stepped (steps n t w).1 (steps n t w).0).world, (stepped (steps n t w).1 (steps n t w).0).token)
