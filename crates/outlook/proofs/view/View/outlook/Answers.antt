use Rattle.std.proofs.Common.{◌≡◌, ℕ, Bool, Ok, Err, Option, Result, sym, refl, ap, ◌∙◌}
use Rattle.std.proofs.lemmas.Result.{err_from_is_err_and}
use Rattle.device.specs.Meaning.{Meaning}
use Rattle.order.specs.declared.code.Order.{Order}
use Rattle.order.specs.declared.code.Undecoded.{Undecoded}
use Rattle.order.specs.Table.{row_cells}
use Rattle.order.proofs.Agree.{agreement}
use Rattle.buffers.specs.Buffers.{records}
use Rattle.outlook.specs.declared.bound.Bound.{Bound}
use Rattle.outlook.specs.declared.next.Next.{Next}
use Rattle.outlook.specs.Own.{Own}
use Rattle.outlook.specs.View.{own_seen}
use Rattle.outlook.specs.Places.{place_after}
use Rattle.outlook.specs.Bounds.{order_bounds, first}
use Rattle.outlook.specs.Outlook.{read_as, foreseen, next_place}
use Rattle.outlook.proofs.Judging.{judged_err, judged_ok}
use Rattle.outlook.proofs.Seeing.{Read, same_outside, same_locked, same_next, same_order, sees_lock, sees_order}
use Rattle.outlook.proofs.view.View.outlook.Goals as goal
use Rattle.outlook.proofs.view.View.outlook.Goals.{After-of-row, After-decode}

-- what was read, of what the program owns
read : (c : After-of-row) (ready : Bool) (bank : ℕ → Option Meaning) → Read (own_seen c.args.self.now ready bank) c.place-place.result c.byte_at-command.result c.of-row.result
read c ready bank = record { small = c.place-place.type_inv; is_place = c.place-place.ensures; is_command = c.byte_at-command.ensures; is_row = c.of-row.ensures }

pub returns-then-holds_lock : goal.returns-then-holds_lock
returns-then-holds_lock c = λ ready bank.
    let o = own_seen c.args.self.now ready bank in
    let r = read (goal.at.returns-then-holds_lock c).After-of-row ready bank in
    sees_lock o (c.if-is_outside.ensures ∙ same_outside o _ _ _ r) (c.if-holds_lock.ensures ∙ same_locked o _ _ _ r c.args.self.now.slot (records c.args.self.now.buffers.now.table) bank refl)

-- what the bytes say, where the order is inside the area and its words are not locked
module _ (c : After-decode) (ready : Bool) (bank : ℕ → Option Meaning) where
  own : Own
  own = own_seen c.args.self.now ready bank

  said : Read own c.place-place.result c.byte_at-command.result c.of-row.result → (d : Result Order Undecoded) {r : Result Next Bound} → c.decode.result ≡ d → r ≡ read_as d own → r ≡ foreseen own
  unfolding own
  said r d ed t =
      sees_order own (c.if-is_outside.ensures ∙ same_outside own _ _ _ r) (c.if-holds_lock.ensures ∙ same_locked own _ _ _ r c.args.self.now.slot (records c.args.self.now.buffers.now.table) bank refl)
      (t ∙ ap (λ x. read_as x own) (sym ed ∙ c.decode.ensures ∙ same_order own _ _ _ r _ _ _ c.byte_at-x.ensures c.byte_at-y.ensures c.byte_at-z.ensures))

pub judge-requires : goal.judge-requires
judge-requires c =
    ap row_cells c.of-row.ensures
    ∙ (agreement c.byte_at-command.result c.byte_at-x.result c.byte_at-y.result c.byte_at-z.result c.in_ok-order.order (sym c.in_ok-order.ensures)).same_cells

pub returns-in_err-order : goal.returns-in_err-order
unfolding own
returns-in_err-order c = λ ready bank.
    let r = read (goal.at.returns-in_err-order c).After-of-row ready bank in
    let e = err_from_is_err_and c.from_residual.result c.from_residual.ensures.1 in
    said (goal.at.returns-in_err-order c).After-decode ready bank r (Err c.in_err-order.field-0.0) c.in_err-order.was (e.1 ∙ ap Err e.2)

pub returns-in_err-judge : goal.returns-in_err-judge
unfolding own
returns-in_err-judge c = λ ready bank.
    let o = own_seen c.args.self.now ready bank in
    let x = c.in_ok-order.order in
    let r = read (goal.at.returns-in_err-judge c).After-of-row ready bank in
    let e = err_from_is_err_and c.from_residual-in_err-judge.result c.from_residual-in_err-judge.ensures.1 in
    said (goal.at.returns-in_err-judge c).After-decode ready bank r (Ok x) c.in_ok-order.was
    (e.1 ∙ ap Err e.2 ∙ judged_err x (next_place o) (first (order_bounds x o)) c.in_err-judge.field-0.0 (c.in_err-judge.ensures ready bank))

pub returns : goal.returns
unfolding own
returns c = λ ready bank.
    let o = own_seen c.args.self.now ready bank in
    let x = c.in_ok-order.order in
    let r = read (goal.at.returns c).After-of-row ready bank in
    said (goal.at.returns c).After-decode ready bank r (Ok x) c.in_ok-order.was
    (judged_ok x (place_after c.place-place.result c.from.result) (next_place o) (first (order_bounds x o)) (ap (place_after c.place-place.result) c.from.ensures ∙ same_next o _ _ _ r) (c.in_ok-judge.ensures ready bank))
