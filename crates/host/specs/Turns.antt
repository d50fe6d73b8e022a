-- A turn, on what its program owns.
--
-- try            the order at the program's place is tried
-- cause_by       why a turn ends once an order was tried, if it does; stops: whether that stops the program;
--                done_by: how many orders that makes done, 1 or 0
-- left_by        what the program owns once an order was tried in a turn
-- Turn           a turn so far: what the program owns, the place and the cause where it has ended, and the count of orders done
-- orders         a turn of n orders, or of those up to the first cause
use Rattle.std.specs.Prelude.{ℕ, zero, suc, ◌+◌, Bool, true, false, cond, Some, None, Option}
use Rattle.outlook.specs.Own.{Own, owning}
use Rattle.outlook.specs.Words.{violation_of}
use Rattle.outlook.specs.declared.bound.Violation.{Violation}
use Rattle.outlook.specs.declared.bound.Violation.TheVariants.{Liv, Nouv, Lov}
use Rattle.program.specs.Effects.{attempted}
use Rattle.program.specs.Told.{Told}
use Rattle.program.specs.Told.Told.{done, broke, refused, out as given_out}
use Rattle.host.specs.Causes.{Cause}
use Rattle.host.specs.Causes.Cause.{broken, dev, out, count}

unfoldable pub try : Own → Own × Told
try o = attempted o

abbrev pub cause_by : Told → Option Cause
cause_by (done moved) = None
cause_by (broke b) = Some (broken b)
cause_by (refused buffer why moved) = Some (dev buffer why moved)
cause_by (given_out word) = Some (out word)

-- a lock-out passes: the order is tried again in a later turn
abbrev pub violation_stops : Violation → Bool
violation_stops Liv = true
violation_stops Nouv = true
violation_stops Lov = false

abbrev pub stops : Told → Bool
stops (done moved) = false
stops (broke b) = violation_stops (violation_of b)
stops (refused buffer why moved) = true
stops (given_out word) = false

abbrev pub done_by : Told → ℕ
done_by (done moved) = 1
done_by (broke b) = 0
done_by (refused buffer why moved) = 0
done_by (given_out word) = 1

abbrev pub stopped : Own → Own
stopped o = owning o.area o.regs false o.lines

abbrev pub left_by : Own × Told → Own
left_by r = cond (stops r.1) (stopped r.0) r.0

pub record Stop : Type 0 where
  pub place : ℕ
  pub cause : Cause

-- a cause names the place of the order that gave it
abbrev pub stop_at : ℕ → Option Cause → Option Stop
stop_at place None = None
stop_at place (Some c) = Some (record { place = place; cause = c })

pub record Turn : Type 0 where
  pub own : Own
  pub stop : Option Stop
  pub orders : ℕ

-- after a cause nothing more is tried
abbrev pub one_more : Option Stop → Turn → Turn
one_more (Some s) t = t
one_more None t = record {
  own = left_by (try t.own);
  stop = stop_at t.own.regs.place (cause_by (try t.own).1);
  orders = t.orders + done_by (try t.own).1;
}

unfoldable pub orders : ℕ → Own → Turn
orders zero o = record { own = o; stop = None; orders = 0 }
orders (suc n) o = one_more (orders n o).stop (orders n o)

-- COUNT names the place of the next order
abbrev pub stop_or_count : Option Stop → ℕ → Stop
stop_or_count (Some s) place = s
stop_or_count None place = record { place = place; cause = count }
