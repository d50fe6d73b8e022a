use Rattle.std.proofs.Common.{◌∙◌, rules, tests, arith}
use Rattle.std.specs.Option.{option_to_list}
use Rattle.std.proofs.lemmas.Iterator.{YieldsList-from_slice}
use Rattle.std.proofs.lemmas.Iterator.Adapters.{YieldsList-from_flatten}
use Rattle.std.proofs.lemmas.Iterator.Search.{any_from_yields_List}
use Rattle.slots.proofs.Overlaps.{option_yields, meets_program, overlaps_is}
use Rattle.slots.proofs.slots.Slots.overlap.Goals as goal

pub returns : goal.returns
returns c =
    let a = c.args.area in
    any_from_yields_List (meets_program a.base a.size) _ _ c.any.result c.any.ensures.ran
    (YieldsList-from_flatten _ _ (λ y. y.now) option_to_list (λ x j b. option_yields x.now b.0 b.1) (YieldsList-from_slice c.args.self.now.table cc) (cc) (cc) (cc))
    (λ x b q k. search (rules, tests))
    ∙ overlaps_is a.base a.size c.args.self.now.table (omega arith)
