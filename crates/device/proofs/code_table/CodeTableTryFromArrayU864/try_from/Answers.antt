use Rattle.std.proofs.Common.{◌≡◌, ◌<◌, eqb, ◌≢◌, length, get_or, sym, arith, rules, below_more, set}
use Rattle.std.proofs.lemmas.List.{get_or-set_same, get_or-set_other}
use Rattle.std.proofs.lemmas.Bool.{eq-eqb, ne_eqb, cond-true, cond-false}
use Rattle.device.specs.Layers.{occurs, fit}
use Rattle.std.proofs.lemmas.Grind.{common_steps}
use Rattle.device.proofs.Cells.{below_replicate}
use Rattle.device.proofs.Tables.{once_below, each_true, each_false}
use Rattle.device.proofs.code_table.CodeTableTryFromArrayU864.try_from.Goals as goal

pub loop-symbol-init : goal.loop-symbol-init
loop-symbol-init c = record { places = below_replicate 64 64 0 (omega arith); once = λ k h. absurd (omega arith); inverse = λ k h. absurd (omega arith) }

pub loop-symbol-preserved : goal.loop-symbol-preserved
loop-symbol-preserved c =
    let shown = c.args.shown in
    let back = c.loop-symbol.place-items in
    let s = c.loop-symbol.symbol in
    let place = c.in-Some.found in
    let found = c.in-Some.ensures in
    let kept = c.loop-symbol.invariant in
    record {
      places = grind (arith, common_steps);
      once = below_more (λ k. occurs k shown ≡ 1) s kept.once found.2;
      inverse = below_more (λ k. get_or shown (get_or (set back s place) k 0) 0 ≡ k) s
          (λ k h. let other : k ≢ s = omega arith in rw get_or-set_other (kept.inverse k h))
          (let here : s < length back = search rules in rw get_or-set_same found.1);
    }

-- a symbol that does not stand there once
pub returns-in_default : goal.returns-in_default
returns-in_default c =
    let table = c.args.shown in
    let s = c.loop-symbol.symbol in
    sym (cond-false (fit table) _ _ (each_false 64 (λ k. eqb (occurs k table) 1) s c.loop-symbol-test.true (ne_eqb (occurs s table) 1 c.in_default.ensures)))

pub returns : goal.returns
returns c =
    let table = c.args.shown in
    sym (cond-true (fit table) _ _ (each_true 64 (λ k. eqb (occurs k table) 1) (λ k h. eq-eqb (occurs k table) 1 (c.loop-symbol.invariant.once k (omega arith)))))

pub invariant_of-result : goal.invariant_of-result
invariant_of-result c =
    let kept = c.loop-symbol.invariant in
    let long : length c.args.shown ≡ 64 = search rules in
    record {
      long = long;
      back_long = search rules;
      symbols = once_below 64 c.args.shown (omega arith) long (λ s h. kept.once s (omega arith));
      back_symbols = kept.places;
      inverse = λ s h. kept.inverse s (omega arith);
    }
