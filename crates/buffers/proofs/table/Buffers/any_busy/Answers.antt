use Rattle.std.proofs.Common.{ℕ, ◌&&◌, ◌∙◌, rules, arith}
use borrow.Author.Tests.{tests}
use Rattle.std.proofs.lemmas.Iterator.{YieldsList-from_range}
use Rattle.std.proofs.lemmas.Iterator.Search.{any_from_yields_List}
use Rattle.buffers.specs.Buffers.{records, holds, is_busy}
use Rattle.buffers.proofs.Found.{any_in_range}
use Rattle.buffers.proofs.table.Buffers.any_busy.Goals as goal

pub returns : goal.returns
returns c =
    let test = λ (k : ℕ). holds c.args.slot (records c.args.self.now.table k) && is_busy (records c.args.self.now.table k).work in
    any_from_yields_List test _ _ c.any.result c.any.ensures.ran (YieldsList-from_range 0 16 16 (cc) (omega arith)) (λ x b q k. search (rules, tests))
    ∙ any_in_range test 16
