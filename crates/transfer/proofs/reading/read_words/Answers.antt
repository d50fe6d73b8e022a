use Rattle.std.proofs.Common.{◌≡◌, suc, ◌+◌, ◌-◌, ◌*◌, length, sym, refl, ap, ◌∙◌, arith}
use Rattle.device.specs.Bank.{standing}
use Rattle.device.proofs.Standing.{standing_set}
use Rattle.transfer.specs.Symbols.{gather, stop_of, why}
use Rattle.transfer.proofs.Movement.{more, last, done}
use Rattle.transfer.proofs.Words.{most, gather_nothing, words_more, count_more, words_last, count_last, nothing_left}
use Rattle.transfer.proofs.Gathering as word
use Rattle.transfer.proofs.reading.read_words.Given as given
use Rattle.transfer.proofs.reading.read_words.Goals as goal
use Rattle.transfer.proofs.reading.read_words.Goals.{After-from-symbols}

-- a word was read
module _ (g : given.Over) (c : After-from-symbols g) where
  left : length c.args.area.now - c.loop-cell.cell-index ≡ suc (length c.args.area.now - (c.loop-cell.cell-index + 1))
  left = omega arith

  device : standing (g.B.Bank.devices c.read_cell-part.new.bank) c.args.n ≡ (gather c.args.ends 8 (standing (g.B.Bank.devices c.loop-cell.bank) c.args.n)).device
  device = standing_set c.args.n (g.B.Bank.devices c.loop-cell.bank) _ (gather_nothing c.args.ends 8 _) c.read_cell-part.ensures.after

  moved : c.loop-cell.symbols + c.from-symbols.result ≡ c.loop-cell.symbols + length (gather c.args.ends 8 (standing (g.B.Bank.devices c.loop-cell.bank) c.args.n)).symbols
  moved = ap (λ i. c.loop-cell.symbols + i) (c.from-symbols.ensures ∙ c.read_cell-part.ensures.moved)

pub overflow_add-symbols : goal.overflow_add-symbols
overflow_add-symbols g c =
    let all = most c.args.ends (8 * length c.args.area.now) (standing (g.B.Bank.devices c.args.bank.now) c.args.n) in
    let eight = most c.args.ends 8 (standing (g.B.Bank.devices c.loop-cell.bank) c.args.n) in
    let before = c.loop-cell.invariant.1.moved in
    omega (arith, moved g c)

pub loop-cell-preserved : goal.loop-cell-preserved
loop-cell-preserved g c =
    let p = (goal.at.loop-cell-preserved g c).After-from-symbols in
    let full = ap stop_of (sym c.in_default.is) ∙ c.read_cell-part.ensures.stop in (
      sym (words_more c.args.ends _ _ (device g p) _ _ (left g p) c.loop-cell.area _ _ c.read_cell-part.ensures.cell full) ∙ c.loop-cell.invariant.0,
      more c.args.n _ _ c.loop-cell.invariant.1 _ _ (moved g p) c.read_cell-part.ensures.after _ (count_more c.args.ends _ _ (device g p) _ _ (left g p) c.loop-cell.area _ _ c.read_cell-part.ensures.cell full),
    )

pub returns-in-Some : goal.returns-in-Some
returns-in-Some g c =
    let p = (goal.at.returns-in-Some g c).After-from-symbols in
    let stopped = ap stop_of (sym c.in-Some.is) ∙ c.read_cell-part.ensures.stop in
    let r = last c.args.n _ _ c.loop-cell.invariant.1 _ _ (moved g p) c.read_cell-part.ensures.after _ (count_last c.args.ends _ _ (device g p) _ _ (left g p) c.loop-cell.area _ _ c.read_cell-part.ensures.cell _ stopped) in
    record {
      area = sym (words_last c.args.ends _ _ (device g p) _ _ (left g p) c.loop-cell.area _ _ c.read_cell-part.ensures.cell _ stopped) ∙ c.loop-cell.invariant.0;
      moved = r.moved;
      refused = c.refusal.ensures ∙ ap why (stopped ∙ r.stop);
      after = r.after;
    }

pub returns : goal.returns
returns g c =
    let none : length c.args.area.now - c.loop-cell.cell-index ≡ 0 = omega arith in
    let r = done c.args.n _ _ c.loop-cell.invariant.1 refl (word.nothing_left c.args.ends _ _ (omega arith)) in
    record {
      area = sym (nothing_left c.args.ends _ _ c.loop-cell.cell-index c.loop-cell.area none) ∙ c.loop-cell.invariant.0;
      moved = r.moved;
      refused = ap why r.stop;
      after = r.after;
    }
