use Rattle.std.proofs.Common.{◌≡◌, suc, ◌+◌, ◌-◌, set, sym, refl, ap, ◌∙◌, arith}
use Rattle.device.proofs.Standing.{standing_after}
use Rattle.transfer.proofs.Movement.{more, last, done}
use Rattle.transfer.proofs.Sending.{symbol_more, symbol_last, symbol_refused, no_symbol}
use Rattle.transfer.proofs.writing.write_word.Goals as goal

pub loop-k-preserved : goal.loop-k-preserved
loop-k-preserved g c =
    let k : c.loop-k.k ≡ suc (c.loop-k.k - 1) = omega arith in
    let moved : 8 - (c.loop-k.k - 1) ≡ 8 - c.loop-k.k + 1 = omega arith in
    let after = standing_after _ (g.B.Bank.devices c.loop-k.bank) c.args.n {b' = g.B.Bank.devices c.write.new.self} c.in-Ok.ensures.after in
    more c.args.n _ _ c.loop-k.invariant 1 _ moved (c.in-Ok.ensures.after ∙ ap (set _ c.args.n) (sym after)) _
    (symbol_more c.args.ends _ _ _ after _ _ _ k refl c.in-Ok.ensures.answer (sym c.is_end.ensures ∙ c.if-is_end.false))

pub returns-then-is_end : goal.returns-then-is_end
returns-then-is_end g c =
    let k : c.loop-k.k ≡ suc (c.loop-k.k - 1) = omega arith in
    let moved : 8 - (c.loop-k.k - 1) ≡ 8 - c.loop-k.k + 1 = omega arith in
    let r = last c.args.n _ _ c.loop-k.invariant 1 _ moved c.in-Ok.ensures.after _ (symbol_last c.args.ends _ _ _ refl _ _ _ k refl c.in-Ok.ensures.answer (sym c.is_end.ensures ∙ c.if-is_end.true)) in
    record { moved = r.moved; stop = r.stop; after = r.after }

pub returns-in-Err : goal.returns-in-Err
returns-in-Err g c =
    let k : c.loop-k.k ≡ suc (c.loop-k.k - 1) = omega arith in
    let moved : 7 - (c.loop-k.k - 1) ≡ 8 - c.loop-k.k + 0 = omega arith in
    let r = last c.args.n _ _ c.loop-k.invariant 0 _ moved c.in-Err.ensures.after _ (symbol_refused c.args.ends _ _ _ refl _ _ _ k refl _ c.in-Err.ensures.answer) in
    record { moved = r.moved; stop = r.stop; after = r.after }

pub returns : goal.returns
returns g c =
    let moved : 8 ≡ 8 - c.loop-k.k = omega arith in
    let r = done c.args.n _ _ c.loop-k.invariant moved (no_symbol c.args.ends _ _ _ (omega arith)) in
    record { moved = r.moved; stop = r.stop; after = r.after }
