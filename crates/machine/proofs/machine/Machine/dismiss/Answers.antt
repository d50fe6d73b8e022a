use Rattle.std.proofs.Common.{refl}
use Rattle.host.specs.Calls.{dismissed}
use Rattle.host.specs.Calls.Call.{dismiss}
use Rattle.machine.specs.Shown.{shown}
use Rattle.machine.proofs.Calls.{refused_call, granted_call, dismissed_shown}
use Rattle.machine.proofs.machine.Machine.dismiss.Goals as goal

pub returns-in_err-check_dismiss : goal.returns-in_err-check_dismiss
returns-in_err-check_dismiss g c store =
    refused_call (dismiss c.args.slot) (shown g.B.Bank.devices store c.args.self.now) _ _ c.from_residual.ensures.1 (c.in_err-check_dismiss.ensures store)

pub returns : goal.returns
returns g c store =
    let w = shown g.B.Bank.devices store c.args.self.now in
    granted_call (dismiss c.args.slot) w _ (dismissed c.args.slot w)
    (dismissed_shown store c.args.self.now.slots c.clear.new.self c.args.self.now.buffers.table c.release.new.self.table (g.B.Bank.devices c.args.self.now.bank) c.args.slot c.clear.ensures c.release.ensures)
    refl (c.in_ok-check_dismiss.ensures store)
