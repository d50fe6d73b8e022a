-- The bounds of an order as the code judges them: those of nest and links, and then the others; and the outlook after them.
use Rattle.std.proofs.Common.{◌≡◌, ℕ, Bool, true, false, cond, ◌∷◌, [], Some, None, Ok, Err, Option, refl, ap, ◌∙◌}
use Rattle.order.specs.Cells.{Cells, cells}
use Rattle.order.specs.declared.code.Order.{Order}
use Rattle.order.specs.declared.code.Order.TheVariants.{Transfer}
use Rattle.order.specs.declared.code.TransferOrder.{TransferOrder}
use Rattle.outlook.specs.Own.{Own}
use Rattle.outlook.specs.Bounds.{short, over, order_bounds, transfer_bounds, first, passed}
use Rattle.outlook.specs.Outlook.{judged}
use Rattle.outlook.specs.declared.bound.Bound.{Bound}
use Rattle.outlook.specs.declared.bound.Bound.TheVariants.{CellsShort, CellsOver}

after_two : (s v : Bool) (rest : Option Bound) → Ok tt ≡ passed (cond s (Some CellsShort) (cond v (Some CellsOver) None)) → passed rest ≡ passed (cond s (Some CellsShort) (cond v (Some CellsOver) rest))
after_two true v rest e = cc
after_two false true rest e = cc
after_two false false rest e = refl

-- a transfer order whose cells are there has only the bounds of a transfer
pub after_cells : (x : TransferOrder) (q : ℕ) (o : Own) (c : Cells) → c ≡ cells (Transfer x q) → Ok tt ≡ passed (first ((CellsShort, short c o.regs) ∷ (CellsOver, over c o.regs) ∷ [])) → passed (first (transfer_bounds x q o)) ≡ passed (first (order_bounds (Transfer x q) o))
after_cells x q o c ec e = after_two (short (cells (Transfer x q)) o.regs) (over (cells (Transfer x q)) o.regs) (first (transfer_bounds x q o)) (e ∙ ap (λ k. passed (first ((CellsShort, short k o.regs) ∷ (CellsOver, over k o.regs) ∷ []))) ec)

pub judged_err : (x : Order) (place : ℕ) (f : Option Bound) (b : Bound) → Err b ≡ passed f → Err b ≡ judged x place f
judged_err x place None b e = cc
judged_err x place (Some d) b e = cc

pub judged_ok : (x : Order) (n place : ℕ) (f : Option Bound) → n ≡ place → Ok tt ≡ passed f → Ok (record { order = x; place = n }) ≡ judged x place f
judged_ok x n place None ep e = ap (λ (p : ℕ). judged x p None) ep
judged_ok x n place (Some d) ep e = cc
