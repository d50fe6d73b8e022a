use Rattle.std.proofs.Common.{◌≡◌, suc, ◌+◌, ◌-◌, length, get_or, sym, refl, ap, ◌∙◌, arith}
use Rattle.device.specs.Bank.{standing}
use Rattle.device.proofs.Standing.{standing_set}
use Rattle.transfer.specs.Symbols.{Sent, send, spread, unpacked, stop_of, why}
use Rattle.transfer.proofs.Movement.{more, last, done}
use Rattle.transfer.proofs.Sending.{send_nothing, most, length_unpacked, length_spread, word_more, word_last, no_word}
use Rattle.transfer.proofs.writing.write_words.Given as given
use Rattle.transfer.proofs.writing.write_words.Goals as goal
use Rattle.transfer.proofs.writing.write_words.Goals.{After-from-symbols}

-- a word was written
module _ (g : given.Over) (c : After-from-symbols g) where
  abbrev this : Sent
  this = send c.args.ends (unpacked 8 (get_or c.args.area.now c.loop-word.word-index 0)) (standing (g.B.Bank.devices c.loop-word.bank) c.args.n)

  left : length c.args.area.now - c.loop-word.word-index ≡ suc (length c.args.area.now - (c.loop-word.word-index + 1))
  left = omega arith

  device : standing (g.B.Bank.devices c.write_word-part.new.bank) c.args.n ≡ this.device
  device = standing_set c.args.n (g.B.Bank.devices c.loop-word.bank) _ (send_nothing c.args.ends _ _) c.write_word-part.ensures.after

  moved : c.loop-word.symbols + c.from-symbols.result ≡ c.loop-word.symbols + this.moved
  moved = ap (λ i. c.loop-word.symbols + i) (c.from-symbols.ensures ∙ c.write_word-part.ensures.moved)

pub overflow_add-symbols : goal.overflow_add-symbols
overflow_add-symbols g c =
    let area = c.args.area.now in
    let all = most c.args.ends (spread (length area) 0 area) (standing (g.B.Bank.devices c.args.bank.now) c.args.n) in
    let eight = most c.args.ends (unpacked 8 (get_or area c.loop-word.word-index 0)) (standing (g.B.Bank.devices c.loop-word.bank) c.args.n) in
    omega (arith, moved g c, length_spread (length area) 0 area, length_unpacked 8 (get_or area c.loop-word.word-index 0))

pub loop-word-preserved : goal.loop-word-preserved
loop-word-preserved g c =
    let p = (goal.at.loop-word-preserved g c).After-from-symbols in
    let full = ap stop_of (sym c.in_default.is) ∙ c.write_word-part.ensures.stop in
    more c.args.n _ _ c.loop-word.invariant _ _ (moved g p) c.write_word-part.ensures.after _ (word_more c.args.ends _ _ c.args.area.now _ _ _ (left g p) (device g p) full)

pub returns-in-Some : goal.returns-in-Some
returns-in-Some g c =
    let p = (goal.at.returns-in-Some g c).After-from-symbols in
    let stopped = ap stop_of (sym c.in-Some.is) ∙ c.write_word-part.ensures.stop in
    let r = last c.args.n _ _ c.loop-word.invariant _ _ (moved g p) c.write_word-part.ensures.after _ (word_last c.args.ends _ _ c.args.area.now _ _ _ (left g p) (device g p) _ stopped) in
    record { moved = r.moved; refused = c.refusal.ensures ∙ ap why (stopped ∙ r.stop); after = r.after }

pub returns : goal.returns
returns g c =
    let r = done c.args.n _ _ c.loop-word.invariant refl (no_word c.args.ends _ _ c.loop-word.word-index _ (omega arith)) in
    record { moved = r.moved; refused = ap why r.stop; after = r.after }
