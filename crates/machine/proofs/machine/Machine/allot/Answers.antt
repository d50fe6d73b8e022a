use Rattle.std.proofs.Common.{◌<◌, refl, arith}
use Rattle.buffers.specs.Buffers.{records, with_owner}
use Rattle.host.specs.Calls.{with_buffer}
use Rattle.host.specs.Calls.Call.{allot}
use Rattle.machine.specs.Shown.{shown}
use Rattle.machine.proofs.Calls.{refused_call, granted_call, buffer_shown}
use Rattle.machine.proofs.machine.Machine.allot.Goals as goal

pub returns-in_err-check_allot : goal.returns-in_err-check_allot
returns-in_err-check_allot g c store =
    refused_call (allot c.args.slot c.args.buffer) (shown g.B.Bank.devices store c.args.self.now) _ _ c.from_residual.ensures.1 (c.in_err-check_allot.ensures.first store)

pub returns : goal.returns
returns g c store =
    let w = shown g.B.Bank.devices store c.args.self.now in
    let b = with_owner c.args.slot (records c.args.self.now.buffers.table c.args.buffer) in
    let below : c.args.buffer < 16 = c.in_ok-check_allot.ensures.within in
    granted_call (allot c.args.slot c.args.buffer) w _ (with_buffer c.args.buffer b w)
    (buffer_shown store c.args.self.now.slots c.args.self.now.buffers.table c.allot.new.self.table (g.B.Bank.devices c.args.self.now.bank) c.args.buffer b
    (omega (arith, c.args.self.now.buffers.sixteen)) c.allot.ensures)
    refl (c.in_ok-check_allot.ensures.first store)
