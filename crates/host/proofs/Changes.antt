-- What an order changes of what its program owns, for all that concerns other programs: the words of the area, but not how many, and at
-- most the device and the work of one buffer that is the program's.
use Rattle.std.proofs.Common.{◌≡◌, ℕ, ◌<◌, ◌≤◌, Bool, true, false, cond, not, ◌||◌, ltb, leb, ◌⊎◌, List, [], ◌∷◌, length, is_some, Some, None, Ok, Err, Option, Result, refl, subst, inl, inr, arith, length-set}
use Prim.Native.String.{String}
use Rattle.std.proofs.lemmas.Bool.{or_parts, ltb-false, leb-false, not-false}
use Rattle.word.specs.declared.q.Q.{Q}
use Rattle.order.specs.declared.code.Order.{Order}
use Rattle.order.specs.declared.code.Order.TheVariants.{Register, Store, Indexed, Transfer, Out}
use Rattle.order.specs.declared.code.StoreOrder.{StoreOrder}
use Rattle.order.specs.declared.code.IndexedOrder.{IndexedOrder}
use Rattle.order.specs.declared.code.TransferOrder.{TransferOrder}
use Rattle.order.specs.declared.code.TransferOrder.TheVariants as transfer
use Rattle.order.specs.declared.code.Undecoded.{Undecoded}
use Rattle.registers.specs.Registers.{q_of, with_place}
use Rattle.store_orders.specs.State.{State, state, on_regs}
use Rattle.store_orders.specs.Effects.{on_store, on_indexed}
use Rattle.transfer.specs.Moves.{Effect, effect, in_turn}
use Rattle.transfer.specs.declared.moves.Transfer.{Transfer as MovingKind}
use Rattle.transfer.specs.declared.moves.Transfer.TheVariants as kind
use Rattle.transfer.proofs.Effects.{in_turn_length}
use Rattle.buffers.specs.declared.buffer.Work.{Work}
use Rattle.buffers.specs.declared.buffer.Work.TheVariants.{Seeking, Moving}
use Rattle.outlook.specs.Own.{Own, Line, line_work, line_device, lines_locked}
use Rattle.outlook.specs.Bounds.{limits_wrong, touches_lock, order_bounds, first}
use Rattle.outlook.specs.Outlook.{next_place, judged, read_as, foreseen}
use Rattle.outlook.specs.declared.bound.Bound.{Bound}
use Rattle.outlook.specs.declared.next.Next.{Next}
use Rattle.program.specs.Effects.{move_by, work_by, ended, moved_by, carried, tried}
use Rattle.program.specs.Kept.{update}
use Rattle.host.specs.Turns.{try}

-- the words that a work begins to move lie in the area, and none of them is locked
abbrev pub Unlocked : Own → Work → Type 0
Unlocked o w = (first last : ℕ) → w ≡ Moving first last → (first ≤ last) × (last < length o.area) × (lines_locked o.lines first last ≡ false)

-- one buffer of the program is at something else: at what it was at, or at a move of words that may be moved
pub record OneLine (o : Own) (lines : ℕ → Option Line) : Type 0 where
  pub buffer : ℕ
  pub line : Line
  pub is : lines ≡ update o.lines buffer (Some line)
  pub its : is_some (o.lines buffer) ≡ true
  pub begins : (line.work ≡ line_work (o.lines buffer)) ⊎ Unlocked o line.work

-- what an order changes
pub record Changes (o q : Own) : Type 0 where
  pub words : length q.area ≡ length o.area
  pub lines : (q.lines ≡ o.lines) ⊎ OneLine o q.lines

-- an order that was foreseen breaks none of its bounds
never : {X : Type 0} → (n : Next) (b : Bound) → ◌≡◌ {A = Result Next Bound} (Err b) (Ok n) → X
never n b e = cc

abbrev Unbroken : Next → Own → Type 0
Unbroken n o = first (order_bounds n.order o) ≡ None

module _ (o : Own) (n : Next) where
  at_judged : (x : Order) (b : Option Bound) → first (order_bounds x o) ≡ b → judged x (next_place o) b ≡ Ok n → Unbroken n o
  at_judged x b eb e = grind arith

  at_read : (r : Result Order Undecoded) → read_as r o ≡ Ok n → Unbroken n o
  at_read (Err u) e = never n _ e
  at_read (Ok x) e = at_judged x (first (order_bounds x o)) refl e

  unbroken : foreseen o ≡ Ok n → Unbroken n o
  unbroken e = grind (arith, at_read)

abbrev AllKept : List (Bound × Bool) → Type 0
AllKept [] = Unit {0}
AllKept (b ∷ bs) = (b.1 ≡ false) × AllKept bs

all_kept : (bs : List (Bound × Bool)) → first bs ≡ None → AllKept bs
all_kept [] e = tt
all_kept (b ∷ bs) e = at b.1 refl e (all_kept bs)
  where
    at : (t : Bool) → b.1 ≡ t → cond t (Some b.0) (first bs) ≡ None → (first bs ≡ None → AllKept bs) → AllKept (b ∷ bs)
    at true et e on = cc
    at false et e on = (et, on e)

-- orders that transfer nothing

store_words : (x : StoreOrder) (q e : ℕ) (s : State) → length (on_store x q e s).area ≡ length s.area
store_words x q e s = grind (arith, length-set)

indexed_words : (x : IndexedOrder) (k q : ℕ) (s : State) → length (on_indexed x k q s).area ≡ length s.area
indexed_words x k q s = grind (arith, length-set)

-- orders that transfer

move_changes : (k : MovingKind) (q : Q) (place : ℕ) (o : Own) → is_some (o.lines q.c) ≡ true → Unlocked o (work_by k q) → Changes o (moved_by k q place o).0
unfolding in_turn
move_changes k q place o its free = at (effect (move_by k q) o.area (line_device (o.lines q.c))).refusal
  where
    e : Effect
    e = effect (move_by k q) o.area (line_device (o.lines q.c))

    long : length (effect (move_by k q) o.area (line_device (o.lines q.c))).area ≡ length o.area
    long = in_turn_length (move_by k q ∷ []) o.area (line_device (o.lines q.c))

    at : (why : Option String) → Changes o (ended k q place o (effect (move_by k q) o.area (line_device (o.lines q.c))) why).0
    at None = record { words = long; lines = inr (record { buffer = q.c; line = _; is = refl; its = its; begins = inr free }) }
    at (Some why) = record { words = long; lines = inr (record { buffer = q.c; line = _; is = refl; its = its; begins = inl refl }) }

module _ (o : Own) (q place : ℕ) where
  abbrev parts : Q
  parts = q_of q o.regs

  unlocked : (x : TransferOrder) → (ltb parts.m parts.i || leb (length o.area) parts.m) ≡ false → lines_locked o.lines parts.i parts.m ≡ false
      → Unlocked o (Moving parts.i parts.m)
  unlocked x limits lock first last e =
      let b = or_parts (ltb parts.m parts.i) (leb (length o.area) parts.m) limits in
      let ef : parts.i ≡ first = cc in
      let el : parts.m ≡ last = cc in (
        omega (arith, ltb-false _ _ b.0),
        omega (arith, leb-false _ _ b.1),
        subst (λ i. lines_locked o.lines i last ≡ false) ef (subst (λ m. lines_locked o.lines parts.i m ≡ false) el lock),
      )

  transfer_changes : (x : TransferOrder) → AllKept (order_bounds (Transfer x q) o) → Changes o (carried (record { order = Transfer x q; place = place }) o).0
  transfer_changes x kept = at x kept.1.1.1.1.1.0 kept.1.1.1.1.1.1.1.0
    where
      its : is_some (o.lines parts.c) ≡ true
      its = not-false _ (or_parts (ltb 15 parts.c) (not (is_some (o.lines parts.c))) kept.1.1.1.1.0).1

      at : (x : TransferOrder) → limits_wrong (Transfer x q) o ≡ false → touches_lock (Transfer x q) o ≡ false → Changes o (carried (record { order = Transfer x q; place = place }) o).0
      at transfer.Read limits lock = move_changes (kind.Read false) parts place o its (unlocked transfer.Read limits lock)
      at transfer.ReadToEnd limits lock = move_changes (kind.Read true) parts place o its (unlocked transfer.ReadToEnd limits lock)
      at transfer.Write limits lock = move_changes (kind.Write false) parts place o its (unlocked transfer.Write limits lock)
      at transfer.WriteToEnd limits lock = move_changes (kind.Write true) parts place o its (unlocked transfer.WriteToEnd limits lock)
      at transfer.Seek limits lock = move_changes kind.Seek parts place o its seeking
        where
          seeking : Unlocked o Seeking
          seeking first last e = cc
      at transfer.Busy limits lock = record { words = refl; lines = inl refl }

order_changes : (x : Order) (place : ℕ) (o : Own) → AllKept (order_bounds x o) → Changes o (carried (record { order = x; place = place }) o).0
order_changes (Register x) place o kept = record { words = refl; lines = inl refl }
order_changes (Store x q e) place o kept = record { words = store_words x q e (on_regs (with_place place) (state o.regs o.area)); lines = inl refl }
order_changes (Indexed x k q) place o kept = record { words = indexed_words x k q (on_regs (with_place place) (state o.regs o.area)); lines = inl refl }
order_changes (Transfer x q) place o kept = transfer_changes o q place x kept
order_changes Out place o kept = record { words = refl; lines = inl refl }

pub changes_try : (o : Own) → Changes o (try o).0
unfolding try
changes_try o = at (foreseen o) refl
  where
    at : (r : Result Next Bound) → foreseen o ≡ r → Changes o (tried r o).0
    at (Err b) e = record { words = refl; lines = inl refl }
    at (Ok n) e = order_changes n.order n.place o (all_kept (order_bounds n.order o) (unbroken o n e))

-- being ready or stopped is left alone
moved_ready : (k : MovingKind) (q : Q) (place : ℕ) (o : Own) → (moved_by k q place o).0.ready ≡ o.ready
moved_ready k q place o = grind arith

carried_ready : (x : Order) (place : ℕ) (o : Own) → (carried (record { order = x; place = place }) o).0.ready ≡ o.ready
carried_ready x place o = grind (arith, moved_ready)

pub ready_try : (o : Own) → (try o).0.ready ≡ o.ready
unfolding try
ready_try o = grind (arith, carried_ready)
