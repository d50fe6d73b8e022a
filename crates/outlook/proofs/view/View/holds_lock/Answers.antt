use Rattle.std.proofs.Common.{ℕ, ◌/◌, ◌∙◌, rules, arith}
use borrow.Author.Tests.{tests}
use Rattle.std.proofs.lemmas.Iterator.{YieldsList-from_range}
use Rattle.std.proofs.lemmas.Iterator.Search.{any_from_yields_List}
use Rattle.buffers.specs.Buffers.{records, locked_between}
use Rattle.buffers.proofs.Found.{any_in_range}
use Rattle.outlook.specs.Places.{place_after}
use Rattle.outlook.proofs.view.View.holds_lock.Goals as goal

pub returns : goal.returns
returns c =
    let locked = λ (k : ℕ). locked_between c.args.self.now.slot (records c.args.self.now.buffers.now.table) (place_after c.args.place k / 6) (place_after c.args.place k / 6) in
    any_from_yields_List locked _ _ c.any.result c.any.ensures.ran (YieldsList-from_range 0 c.args.bytes c.args.bytes (cc) (omega arith)) (λ x b q k. search (rules, tests))
    ∙ any_in_range locked c.args.bytes
