-- What the orders leave in the area: an entry that is written is a word.
use Rattle.std.specs.Prelude.{◌≡◌, ℕ, ◌^◌, ◌<◌, ◌⊎◌, List, slice_index}
use Rattle.order.specs.declared.code.StoreOrder.{StoreOrder}
use Rattle.order.specs.declared.code.IndexedOrder.{IndexedOrder}
use Rattle.registers.specs.Registers.{Regs}
use Rattle.registers.specs.Sound.{Sound}
use Rattle.store_orders.specs.State.{state}
use Rattle.store_orders.specs.Effects.{on_store, on_indexed}

-- each entry is as it was, or below 2^48
abbrev pub KeptOrWord : List ℕ → List ℕ → Type 0
KeptOrWord before after = (i : ℕ) → (slice_index after i ≡ slice_index before i) ⊎ (slice_index after i < 2 ^ 48)

-- for every order, registers and area
pub record WritesWords : Type 0 where
  pub by_store : (r : Regs) (xs : List ℕ) → Sound r → (o : StoreOrder) (q e : ℕ) → KeptOrWord xs (on_store o q e (state r xs)).area
  pub by_indexed : (r : Regs) (xs : List ℕ) → Sound r → (o : IndexedOrder) (k q : ℕ) → KeptOrWord xs (on_indexed o k q (state r xs)).area
