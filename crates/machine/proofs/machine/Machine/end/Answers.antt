use Rattle.std.proofs.Common.{◌<◌, refl, arith}
use Rattle.buffers.specs.Buffers.{records, with_work}
use Rattle.buffers.specs.declared.buffer.Work.TheVariants.{Idle}
use Rattle.host.specs.Calls.{with_buffer}
use Rattle.host.specs.Calls.Call.{end}
use Rattle.machine.specs.Shown.{shown}
use Rattle.machine.proofs.Calls.{refused_call, granted_call, buffer_shown}
use Rattle.machine.proofs.machine.Machine.end.Goals as goal

pub returns-in_err-check_end : goal.returns-in_err-check_end
returns-in_err-check_end g c store =
    refused_call (end c.args.buffer) (shown g.B.Bank.devices store c.args.self.now) _ _ c.from_residual.ensures.1 (c.in_err-check_end.ensures.first store)

pub returns : goal.returns
returns g c store =
    let w = shown g.B.Bank.devices store c.args.self.now in
    let b = with_work Idle (records c.args.self.now.buffers.table c.args.buffer) in
    let below : c.args.buffer < 16 = c.in_ok-check_end.ensures.within in
    granted_call (end c.args.buffer) w _ (with_buffer c.args.buffer b w)
    (buffer_shown store c.args.self.now.slots c.args.self.now.buffers.table c.end.new.self.table (g.B.Bank.devices c.args.self.now.bank) c.args.buffer b
    (omega (arith, c.args.self.now.buffers.sixteen)) c.end.ensures)
    refl (c.in_ok-check_end.ensures.first store)
