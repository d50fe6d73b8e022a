-- The bounds of an order, on what its program owns: for each, whether the order breaks it.
--
-- place_outside     a byte of the order is outside the area
-- words_locked      a word that holds a byte of the order is locked
-- short, over       nest or links have too few cells, or would have more than 16
-- address_outside   the word that it fetches or stores is outside the area
-- no_buffer         C of its Q is over 15, or not a buffer of the program
-- limits_wrong      it moves words I to M, and not I ≤ M < size
-- held_up           its buffer is busy; BUSY is not held up
-- touches_lock      a word that it touches is locked
-- order_bounds      all bounds of an order that could be read, in the order in which they are judged
use Rattle.std.specs.Prelude.{ℕ, ◌+◌, ◌*◌, ◌/◌, Bool, true, false, cond, not, ◌&&◌, ◌||◌, leb, List, [], ◌∷◌, length, is_some, Some, None, Ok, Err, Option, Result, nat_le, nat_lt}
use Rattle.order.specs.Cells.{Cells, cells}
use Rattle.order.specs.declared.code.Order.{Order}
use Rattle.order.specs.declared.code.Order.TheVariants.{Register, Store, Indexed, Transfer, Out}
use Rattle.order.specs.declared.code.TransferOrder.{TransferOrder}
use Rattle.order.specs.declared.code.TransferOrder.TheVariants as transfer
use Rattle.registers.specs.Registers.{Regs, q_of}
use Rattle.register_orders.specs.Shifts.{shift_fits}
use Rattle.store_orders.specs.Addresses.{address_of}
use Rattle.buffers.specs.Buffers.{any_below, is_busy}
use Rattle.outlook.specs.Own.{Own, Line, line_work, lines_locked}
use Rattle.outlook.specs.Places.{place_after, order_row}
use Rattle.outlook.specs.declared.bound.Bound.{Bound}
use Rattle.outlook.specs.declared.bound.Bound.TheVariants.{CellsShort, CellsOver, ShiftLength, Address, NoBuffer, Limits, Busy, WordLock}

abbrev pub place_outside : Own → Bool
place_outside o = any_below (order_row o).length (λ k. leb (6 * length o.area) (place_after o.regs.place k))

abbrev pub words_locked : Own → Bool
words_locked o =
    any_below (order_row o).length (λ k. lines_locked o.lines (place_after o.regs.place k / 6) (place_after o.regs.place k / 6))

abbrev pub short : Cells → Regs → Bool
short c r = nat_lt (length r.nest) c.nest_needed || nat_lt (length r.links) c.links_needed

abbrev pub over : Cells → Regs → Bool
over c r = nat_lt (16 + c.nest_needed) (length r.nest + c.nest_left) || nat_lt (16 + c.links_needed) (length r.links + c.links_left)

abbrev pub length_fits : Order → Regs → Bool
length_fits (Register o) r = shift_fits o r
length_fits (Store o q e) r = true
length_fits (Indexed o k q) r = true
length_fits (Transfer o q) r = true
length_fits Out r = true

-- an address outside an area of that size
abbrev pub outside : Option ℕ → ℕ → Bool
outside None size = false
outside (Some a) size = nat_le size a

abbrev pub address_outside : Order → Own → Bool
address_outside x o = outside (address_of x o.regs) (length o.area)

-- RD, RDE, WR and WRE move words of the area
abbrev pub moves_words : TransferOrder → Bool
moves_words transfer.Read = true
moves_words transfer.ReadToEnd = true
moves_words transfer.Write = true
moves_words transfer.WriteToEnd = true
moves_words transfer.Seek = false
moves_words transfer.Busy = false

abbrev pub asks_busy : TransferOrder → Bool
asks_busy transfer.Read = false
asks_busy transfer.ReadToEnd = false
asks_busy transfer.Write = false
asks_busy transfer.WriteToEnd = false
asks_busy transfer.Seek = false
asks_busy transfer.Busy = true

abbrev pub no_buffer : Order → Own → Bool
no_buffer (Register x) o = false
no_buffer (Store x q e) o = false
no_buffer (Indexed x k q) o = false
no_buffer (Transfer x q) o = nat_lt 15 (q_of q o.regs).c || not (is_some (o.lines (q_of q o.regs).c))
no_buffer Out o = false

abbrev pub limits_wrong : Order → Own → Bool
limits_wrong (Register x) o = false
limits_wrong (Store x q e) o = false
limits_wrong (Indexed x k q) o = false
limits_wrong (Transfer x q) o = moves_words x && (nat_lt (q_of q o.regs).m (q_of q o.regs).i || nat_le (length o.area) (q_of q o.regs).m)
limits_wrong Out o = false

abbrev pub held_up : Order → Own → Bool
held_up (Register x) o = false
held_up (Store x q e) o = false
held_up (Indexed x k q) o = false
held_up (Transfer x q) o = not (asks_busy x) && is_busy (line_work (o.lines (q_of q o.regs).c))
held_up Out o = false

-- at one address, if there is one
abbrev pub locked_at : (ℕ → Option Line) → Option ℕ → Bool
locked_at lines None = false
locked_at lines (Some a) = lines_locked lines a a

abbrev pub touches_lock : Order → Own → Bool
touches_lock (Register x) o = false
touches_lock (Store x q e) o = locked_at o.lines (address_of (Store x q e) o.regs)
touches_lock (Indexed x k q) o = locked_at o.lines (address_of (Indexed x k q) o.regs)
touches_lock (Transfer x q) o = moves_words x && lines_locked o.lines (q_of q o.regs).i (q_of q o.regs).m
touches_lock Out o = false

abbrev pub order_bounds : Order → Own → List (Bound × Bool)
order_bounds x o =
    (CellsShort, short (cells x) o.regs)
    ∷ (CellsOver, over (cells x) o.regs)
    ∷ (ShiftLength, not (length_fits x o.regs))
    ∷ (Address, address_outside x o)
    ∷ (NoBuffer, no_buffer x o)
    ∷ (Limits, limits_wrong x o)
    ∷ (Busy, held_up x o)
    ∷ (WordLock, touches_lock x o)
    ∷ []

-- the bounds that only a transfer order has
abbrev pub transfer_bounds : TransferOrder → ℕ → Own → List (Bound × Bool)
transfer_bounds x q o =
    (NoBuffer, no_buffer (Transfer x q) o)
    ∷ (Limits, limits_wrong (Transfer x q) o)
    ∷ (Busy, held_up (Transfer x q) o)
    ∷ (WordLock, touches_lock (Transfer x q) o)
    ∷ []

-- the first that is broken
abbrev pub first : List (Bound × Bool) → Option Bound
first [] = None
first (b ∷ bs) = cond b.1 (Some b.0) (first bs)

-- that none is broken, or the first that is
abbrev pub passed : Option Bound → Result (Unit {0}) Bound
passed None = Ok tt
passed (Some b) = Err b
