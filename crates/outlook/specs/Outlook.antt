-- The outlook on a program's next order: the order with the place of the one after it, or the first bound that it breaks.
use Rattle.std.specs.Prelude.{ℕ, cond, Some, None, Ok, Err, Option, Result}
use Rattle.order.specs.declared.code.Order.{Order}
use Rattle.order.specs.declared.code.Undecoded.{Undecoded}
use Rattle.outlook.specs.Own.{Own}
use Rattle.outlook.specs.Places.{place_after, order_row, order_here}
use Rattle.outlook.specs.Words.{unreadable}
use Rattle.outlook.specs.Bounds.{place_outside, words_locked, order_bounds, first}
use Rattle.outlook.specs.declared.bound.Bound.{Bound}
use Rattle.outlook.specs.declared.bound.Bound.TheVariants.{Place, OrderLock}
use Rattle.outlook.specs.declared.next.Next.{Next}

-- the place of the order after the next one, if that is done and does not jump
abbrev pub next_place : Own → ℕ
next_place o = place_after o.regs.place (order_row o).length

abbrev pub judged : Order → ℕ → Option Bound → Result Next Bound
judged x place None = Ok (record { order = x; place = place })
judged x place (Some b) = Err b

abbrev pub read_as : Result Order Undecoded → Own → Result Next Bound
read_as (Err u) o = Err (unreadable u)
read_as (Ok x) o = judged x (next_place o) (first (order_bounds x o))

abbrev pub foreseen : Own → Result Next Bound
foreseen o = cond (place_outside o) (Err Place) (cond (words_locked o) (Err OrderLock) (read_as (order_here o) o))
