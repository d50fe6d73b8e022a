use Rattle.std.proofs.Common.{refl, ap, arith}
use Rattle.host.specs.Causes.{report_of}
use Rattle.host.specs.Calls.{by_check}
use Rattle.host.specs.Calls.Call.{turn}
use Rattle.machine.specs.Shown.{shown, token_of}
use Rattle.machine.proofs.Steps.{turn_ran}
use Rattle.machine.proofs.machine.Machine.turn.Goals as goal

pub returns-in-Err : goal.returns-in-Err
returns-in-Err g c =
    ap (by_check (turn c.args.slot c.args.n) (shown g.B.Bank.devices c.args.store.now c.args.self.now)) (c.in-Err.ensures c.args.n c.args.store.now refl)

pub returns : goal.returns
returns g c =
    turn_ran c.args.slot c.args.n (shown g.B.Bank.devices c.args.store.now c.args.self.now) (shown g.B.Bank.devices c.run.new.store c.run.new.self)
    (token_of c.enter-turn.result) (token_of c.run.new.turn) (report_of c.hand_back.result.0) (omega arith)
    (c.in_default.ensures c.args.n c.args.store.now refl) c.enter-turn.ensures c.run.ensures (c.hand_back.ensures c.run.new.store)
