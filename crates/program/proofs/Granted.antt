-- An order that breaks no bound.
use Rattle.std.proofs.Common.{◌≡◌, ℕ, ◌<◌, ◌≤◌, Bool, true, false, cond, List, length, Some, None, Ok, Err, Option, Result, refl, subst, arith}
use Rattle.std.proofs.lemmas.Bool.Decides.{nat_tests}
use Rattle.order.specs.declared.code.Order.{Order}
use Rattle.order.specs.declared.code.Order.TheVariants.{Register, Store, Indexed, Transfer, Out}
use Rattle.order.specs.declared.code.RegisterOrder.{RegisterOrder}
use Rattle.order.specs.declared.code.StoreOrder.{StoreOrder}
use Rattle.order.specs.declared.code.IndexedOrder.{IndexedOrder}
use Rattle.order.specs.declared.code.TransferOrder.{TransferOrder}
use Rattle.order.specs.Cells.{Cells, cells, register_cells, store_cells, indexed_cells, out_cells}
use Rattle.word.specs.declared.q.Q.{Q}
use Rattle.registers.specs.Registers.{Regs, q_of, with_place}
use Rattle.register_orders.specs.Shifts.{shift_fits}
use Rattle.store_orders.specs.Addresses.{store_address, indexed_address}
use Rattle.registers.specs.Enough.{Enough}
use Rattle.buffers.specs.declared.buffer.Buffer.{Buffer}
use Rattle.buffers.specs.Buffers.{holds}
use Rattle.outlook.specs.declared.next.Next.{Next}
use Rattle.outlook.specs.Own.{Own, own_of}
use Rattle.outlook.specs.Places.{order_here}
use Rattle.order.specs.declared.code.Undecoded.{Undecoded}
use Rattle.outlook.specs.declared.bound.Bound.{Bound}
use Rattle.outlook.specs.declared.bound.Bound.TheVariants.{Place, OrderLock}
use Rattle.outlook.specs.Bounds.{place_outside, words_locked, short, over, length_fits, address_outside, no_buffer, order_bounds, first}
use Rattle.outlook.specs.Outlook.{next_place, judged, read_as, foreseen}

pub record Granted (x : Order) (o : Own) : Type 0 where
  pub enough : Enough (cells x) o.regs
  pub fits : length_fits x o.regs ≡ true
  pub inside : address_outside x o ≡ false
  pub there : no_buffer x o ≡ false

enough_by : (c : Cells) (r : Regs) → short c r ≡ false → over c r ≡ false → Enough c r
enough_by c r s v = record { nest_there = grind (arith, nat_tests); nest_room = grind (arith, nat_tests); links_there = grind (arith, nat_tests); links_room = grind (arith, nat_tests) }

module _ (n : Next) (o : Own) where
  at_judged : (x : Order) (place : ℕ) (b : Option Bound) → Ok n ≡ judged x place b → (x ≡ n.order) × (b ≡ None)
  at_judged x place (Some b) e = cc
  at_judged x place None e = (grind arith, refl)

  at_read : (r : Result Order Undecoded) → Ok n ≡ read_as r o → first (order_bounds n.order o) ≡ None
  at_read (Err u) e = cc
  at_read (Ok x) e = let j = at_judged x (next_place o) (first (order_bounds x o)) e in subst (λ y. first (order_bounds y o) ≡ None) j.0 j.1

  none_broken : (outside locked : Bool) → Ok n ≡ cond outside (Err Place) (cond locked (Err OrderLock) (read_as (order_here o) o)) → first (order_bounds n.order o) ≡ None
  none_broken true locked e = cc
  none_broken false true e = cc
  none_broken false false e = at_read (order_here o) e

-- an outlook that is an order breaks no bound; the last three matter to no proof
pub granted : (o : Own) (n : Next) → Ok n ≡ foreseen o → Granted n.order o
granted o n e =
    let none = none_broken n o (place_outside o) (words_locked o) e in
    record { enough = enough_by (cells n.order) o.regs (grind (arith, nat_tests)) (grind (arith, nat_tests)); fits = grind (arith, nat_tests); inside = grind (arith, nat_tests); there = grind (arith, nat_tests) }

-- so each order may be carried out, from the place of the next one
module _ (o : Own) (n : Next) (e : Ok n ≡ foreseen o) where
  by_order : (x : Order) → n.order ≡ x → Granted x o
  by_order x is = subst (λ y. Granted y o) is (granted o n e)

  placed : {c : Cells} {place : ℕ} → Enough c o.regs → Enough c (with_place place o.regs)
  placed h = record { nest_there = h.nest_there; nest_room = h.nest_room; links_there = h.links_there; links_room = h.links_room }

  module _ (regs : Regs) (after : regs ≡ with_place n.place o.regs) where
    pub may_register : (x : RegisterOrder) → n.order ≡ Register x → Enough (register_cells x) regs × (shift_fits x regs ≡ true)
    may_register x is = let h = by_order (Register x) is in rw after (placed h.enough, grind (arith, h.fits))

    pub may_store : (x : StoreOrder) (q a : ℕ) → n.order ≡ Store x q a → Enough (store_cells x) regs × (store_address q a regs < length o.area)
    may_store x q a is = let h = by_order (Store x q a) is in rw after (placed h.enough, grind (arith, nat_tests, h.inside))

    pub may_index : (x : IndexedOrder) (k q : ℕ) → n.order ≡ Indexed x k q → Enough (indexed_cells x) regs × (indexed_address x k q regs < length o.area)
    may_index x k q is = let h = by_order (Indexed x k q) is in rw after (placed h.enough, grind (arith, nat_tests, h.inside))

    pub may_out : n.order ≡ Out → Enough out_cells regs
    may_out is = let h = by_order Out is in rw after (placed h.enough)

-- and a transfer is on a buffer of its slot
pub may_transfer : (slot : ℕ) (regs : Regs) (area : List ℕ) (buffers : ℕ → Buffer) (n : Next) (x : TransferOrder) (q : ℕ) (v : Q) →
    Ok n ≡ foreseen (own_of slot regs area true buffers (λ _. None)) → n.order ≡ Transfer x q → v ≡ q_of q regs → (v.c ≤ 15) × (holds slot (buffers v.c) ≡ true)
may_transfer slot regs area buffers n x q v e is ev =
    let h = by_order (own_of slot regs area true buffers (λ _. None)) n e (Transfer x q) is in
    rw ev (grind (arith, nat_tests, h.there), grind (arith, nat_tests, h.there))
