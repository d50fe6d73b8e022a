use Rattle.std.proofs.Common.{◌≡◌, refl, ap, ◌<◌, map, get_or, None, arith, ◌∙◌}
use Rattle.std.specs.List.{range_with_len}
use Rattle.std.proofs.lemmas.List.FromFn.{get_or-map-range_with_len}
use Rattle.line_printer.specs.Code.{printed}
use Rattle.line_printer.specs.declared.TheConstants.{CODE}
use Rattle.line_printer.proofs.printed.Goals as goal

-- The table is the list of what the code says at 0, 1, .. 63: antt compares the 64 characters.
pub returns : goal.returns
returns c =
    let inside : c.from.result < 64 = grind arith in
    let read : c.in_ok-get.field-0.now ≡ get_or CODE c.from.result None = grind arith in
    let agrees : CODE ≡ map printed (range_with_len 0 64) = refl in
    read ∙ ap (λ t. get_or t c.from.result None) agrees ∙ get_or-map-range_with_len printed 0 64 c.from.result c.args.symbol None inside (omega (arith, c.from.ensures))
