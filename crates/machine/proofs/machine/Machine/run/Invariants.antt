use Rattle.std.proofs.Common.{◌≡◌}
use Rattle.host.specs.World.{World}
use Rattle.host.specs.Steps.{Token, steps}
use Rattle.machine.specs.Shown.{shown, token_of}
use Rattle.machine.proofs.machine.Machine.run.Given as goal

abbrev pub invariant-loop : goal.invariant-loop
invariant-loop g l =
    ◌≡◌ {A = World × Token} (shown g.B.Bank.devices l.store l.self, token_of l.turn) (steps l.counter (token_of l.fn.turn) (shown g.B.Bank.devices l.fn.store l.fn.self))
