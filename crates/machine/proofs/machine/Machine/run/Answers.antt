use Rattle.std.proofs.Common.{◌≡◌, ap, ◌∙◌, refl, arith}
use Rattle.host.specs.Steps.{steps, step_told}
use Rattle.machine.specs.Shown.{shown, token_of}
use Rattle.machine.proofs.Steps.{none_yet, one_more, has_ended}
use Rattle.machine.proofs.machine.Machine.run.Goals as goal

pub loop-init : goal.loop-init
loop-init g c = none_yet (token_of c.args.turn.now) (shown g.B.Bank.devices c.args.store.now c.args.self.now)

pub returns-then-is_some : goal.returns-then-is_some
returns-then-is_some g c =
    has_ended c.loop.counter c.args.n (token_of c.args.turn.now) (token_of c.loop.turn) (shown g.B.Bank.devices c.args.store.now c.args.self.now) (shown g.B.Bank.devices c.loop.store c.loop.self)
    c.loop.turn.ending (omega arith) c.loop.invariant refl (cc)

pub loop-preserved : goal.loop-preserved
loop-preserved g c =
    one_more c.loop.counter (token_of c.args.turn.now) (token_of c.loop.turn) (token_of c.step.new.turn) (shown g.B.Bank.devices c.args.store.now c.args.self.now) (shown g.B.Bank.devices c.loop.store c.loop.self)
    (shown g.B.Bank.devices c.step.new.store c.step.new.self) (step_told c.step.result) c.loop.invariant c.step.ensures

pub returns : goal.returns
returns g c =
    let same : c.loop.counter ≡ c.args.n = omega arith in
    c.loop.invariant ∙ ap (λ k. steps k (token_of c.args.turn.now) (shown g.B.Bank.devices c.args.store.now c.args.self.now)) same
