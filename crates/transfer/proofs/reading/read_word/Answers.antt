use Rattle.std.proofs.Common.{◌≡◌, suc, ◌-◌, ◌+◌, ◌<◌, set, true, false, Ok, sym, refl, ap, ◌∙◌, arith}
use Rattle.device.specs.Meaning.{read_answer, read_after}
use Rattle.device.specs.Bank.{standing, after_of, bank_answer}
use Rattle.device.proofs.Standing.{standing_after}
use Rattle.transfer.specs.Symbols.{ending}
use Rattle.transfer.proofs.Movement.{more, last, done}
use Rattle.transfer.proofs.Gathering.{symbol_below, fits, goes_on, one_more, ends_here, one_last, none_more, ended, full, nothing_left}
use Rattle.transfer.proofs.reading.read_word.Given as given
use Rattle.transfer.proofs.reading.read_word.Goals as goal
use Rattle.transfer.proofs.reading.read_word.Goals.{After-from}

-- a symbol was read
module _ (g : given.Over) (c : After-from g) where
  k : c.loop-k.k ≡ suc (c.loop-k.k - 1)
  k = omega arith

  after : standing (g.B.Bank.devices c.read.new.self) c.args.n ≡ after_of read_after (standing (g.B.Bank.devices c.loop-k.bank) c.args.n)
  after = standing_after read_after (g.B.Bank.devices c.loop-k.bank) c.args.n c.in-Ok.ensures.after

  answer : Ok c.from.result ≡ bank_answer read_answer (g.B.Bank.devices c.loop-k.bank) c.args.n
  answer = ap Ok c.from.ensures ∙ c.in-Ok.ensures.answer

  small : c.from.result < 64
  small = symbol_below _ (g.met.B.Bank.whole c.loop-k.bank) c.args.n c.from.result answer

  moved : 8 - (c.loop-k.k - 1) ≡ 8 - c.loop-k.k + 1
  moved = omega arith

  bank : g.B.Bank.devices c.read.new.self ≡ set (g.B.Bank.devices c.loop-k.bank) c.args.n (standing (g.B.Bank.devices c.read.new.self) c.args.n)
  bank = c.in-Ok.ensures.after ∙ ap (set _ c.args.n) (sym after)

pub overflow_add-word : goal.overflow_add-word
overflow_add-word g c = let r = fits _ _ _ (after g c) _ _ _ _ (k g c) c.loop-k.invariant.0 _ (answer g c) (small g c) in omega arith

pub loop-k-preserved : goal.loop-k-preserved
loop-k-preserved g c =
    let p = (goal.at.loop-k-preserved g c).After-from in
    let on : ending c.args.ends c.from.result ≡ false = ap (ending c.args.ends) c.from.ensures ∙ sym c.is_end.ensures ∙ c.if-is_end.false in (
      goes_on c.args.ends _ _ (after g p) _ _ _ _ (k g p) c.loop-k.invariant.0 _ (answer g p) (small g p) on,
      more c.args.n _ _ c.loop-k.invariant.1 1 _ (moved g p) (bank g p) _ (one_more c.args.ends _ _ (after g p) _ _ _ _ (k g p) c.loop-k.invariant.0 _ (answer g p) (small g p) on),
    )

pub returns-then-is_end : goal.returns-then-is_end
returns-then-is_end g c =
    let p = (goal.at.returns-then-is_end g c).After-from in
    let off : ending c.args.ends c.from.result ≡ true = ap (ending c.args.ends) c.from.ensures ∙ sym c.is_end.ensures ∙ c.if-is_end.true in
    let r = last c.args.n _ _ c.loop-k.invariant.1 1 _ (moved g p) (bank g p) _ (one_last c.args.ends _ _ (after g p) _ _ _ _ (k g p) c.loop-k.invariant.0 _ (answer g p) (small g p) off) in
    record { word = ends_here c.args.ends _ _ (after g p) _ _ _ _ (k g p) c.loop-k.invariant.0 _ (answer g p) (small g p) off; moved = r.moved; stop = r.stop; after = r.after }

pub returns-in-Err : goal.returns-in-Err
returns-in-Err g c =
    let k : c.loop-k.k ≡ suc (c.loop-k.k - 1) = omega arith in
    let moved : 7 - (c.loop-k.k - 1) ≡ 8 - c.loop-k.k + 0 = omega arith in
    let w = ended c.args.ends _ _ refl _ _ _ _ k c.loop-k.invariant.0 _ c.in-Err.ensures.answer in
    let r = last c.args.n _ _ c.loop-k.invariant.1 0 _ moved c.in-Err.ensures.after _ (none_more c.args.ends _ _ refl _ _ _ _ k c.loop-k.invariant.0 _ c.in-Err.ensures.answer) in
    record { word = w; moved = r.moved; stop = r.stop; after = r.after }

pub returns : goal.returns
returns g c =
    let moved : 8 ≡ 8 - c.loop-k.k = omega arith in
    let r = done c.args.n _ _ c.loop-k.invariant.1 moved (nothing_left c.args.ends _ _ (omega arith)) in
    record { word = full c.args.ends _ _ _ _ (omega arith) c.loop-k.invariant.0; moved = r.moved; stop = r.stop; after = r.after }
