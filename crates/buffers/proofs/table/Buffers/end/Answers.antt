use Rattle.std.proofs.Common.{sym, ◌∙◌, length-set}
use Rattle.buffers.proofs.Locks.{none_moving}
use Rattle.buffers.proofs.table.Buffers.end.Goals as goal

pub invariant_of-self-then-n-lt16 : goal.invariant_of-self-then-n-lt16
invariant_of-self-then-n-lt16 c =
    let long = length-set c.args.self.now.table c.from-n.result _ ∙ c.args.self.now.sixteen in
    record { sixteen = long; quiet = λ e. none_moving _ long (sym c.any_moving-self.ensures ∙ e) }
