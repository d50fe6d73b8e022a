use Rattle.std.proofs.Common.{ap, sym, ◌∙◌}
use Rattle.order.specs.Cells.{cells}
use Rattle.order.specs.Table.{row_cells}
use Rattle.outlook.specs.View.{own_seen}
use Rattle.outlook.specs.Bounds.{order_bounds, first, passed}
use Rattle.outlook.proofs.Judging.{after_cells}
use Rattle.outlook.proofs.view.View.judge.Goals as goal

pub returns-in-Transfer : goal.returns-in-Transfer
returns-in-Transfer c = λ ready bank.
    let o = own_seen c.args.self.now ready bank in
    c.judge_transfer.ensures ready bank
    ∙ after_cells c.in-Transfer.o c.in-Transfer.q o (row_cells c.args.row) (c.requires ∙ ap cells c.in-Transfer.is) c.in_ok-judge_cells.ensures
    ∙ ap (λ x. passed (first (order_bounds x o))) (sym c.in-Transfer.is)
