use Rattle.std.proofs.Common.{sym}
use Rattle.std.proofs.lemmas.Bool.{eqb-true, eqb-false}
use Rattle.device.specs.Meaning.{write_after}
use Rattle.device.specs.Banks.{after_here, after_other}
use Rattle.device.proofs.plugged.PluggedBank.write.Goals as goal

pub returns-then-is_here-clause-after : goal.returns-then-is_here-clause-after
returns-then-is_here-clause-after g c =
    let p = c.args.self.now in
    after_here _ _ _ _ (eqb-true _ _ (sym c.if-is_here.ensures)) (g.met.B.Bank.whole p.below) p.buffer.few (λ x. write_after x c.args.symbol) c.write.ensures.after

pub returns-else-is_here-clause-after : goal.returns-else-is_here-clause-after
returns-else-is_here-clause-after g c = after_other _ _ _ _ (eqb-false _ _ (sym c.if-is_here.ensures)) (λ x. write_after x c.args.symbol) c.write-else-is_here.ensures.after
