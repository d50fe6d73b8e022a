-- What the orders that fetch and store do. The address is formed first; a step then changes q alone. The place is already that of the next order.
use Rattle.std.specs.Prelude.{ℕ, ◌%◌, Bool, ◌==◌}
use Rattle.order.specs.declared.code.StoreOrder.{StoreOrder}
use Rattle.order.specs.declared.code.StoreOrder.TheVariants as store
use Rattle.order.specs.declared.code.IndexedOrder.{IndexedOrder}
use Rattle.order.specs.declared.code.IndexedOrder.TheVariants as indexed
use Rattle.registers.specs.Registers.{Regs, q_of}
use Rattle.store_orders.specs.State.{State, on_regs, fetch, put, fetch_half, put_half, stepped}
use Rattle.store_orders.specs.Addresses.{store_address, joint, joint_half}

-- 70 E, 71 EQ, 72 =E, 73 =EQ
abbrev pub on_store : StoreOrder → ℕ → ℕ → State → State
on_store store.Fetch q e s = fetch (store_address q e s.regs) s
on_store store.FetchStep q e s = on_regs (stepped q) (fetch (store_address q e s.regs) s)
on_store store.Put q e s = put (store_address q e s.regs) s
on_store store.PutStep q e s = on_regs (stepped q) (put (store_address q e s.regs) s)

-- Mq is even
abbrev pub even : ℕ → Regs → Bool
even q r = (q_of q r).m % 2 == 0

-- 78 MM, 79 =MM, 7A MMQ, 7B =MMQ, 7C MMH, 7D =MMH
abbrev pub on_indexed : IndexedOrder → ℕ → ℕ → State → State
on_indexed indexed.Fetch k q s = fetch (joint k q s.regs) s
on_indexed indexed.Put k q s = put (joint k q s.regs) s
on_indexed indexed.FetchStep k q s = on_regs (stepped q) (fetch (joint k q s.regs) s)
on_indexed indexed.PutStep k q s = on_regs (stepped q) (put (joint k q s.regs) s)
on_indexed indexed.FetchHalf k q s = fetch_half (even q s.regs) (joint_half k q s.regs) s
on_indexed indexed.PutHalf k q s = put_half (even q s.regs) (joint_half k q s.regs) s
