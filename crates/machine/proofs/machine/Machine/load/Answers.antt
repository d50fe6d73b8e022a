use Rattle.std.proofs.Common.{refl, arith}
use Rattle.host.specs.Calls.{loaded}
use Rattle.host.specs.Calls.Call.{load}
use Rattle.machine.specs.Shown.{shown}
use Rattle.machine.proofs.Calls.{granted_call, filled, loaded_shown}
use Rattle.machine.proofs.machine.Machine.load.Goals as goal

pub returns : goal.returns
returns g c =
    let a = c.args.area in
    let w = shown g.B.Bank.devices c.args.store.now c.args.self.now in
    let within = c.in_ok-check_load.ensures.within in
    let full = filled c.range.result.start a.base a.size _ c.args.store.now c.fill.new.area c.args.image.now c.range.ensures.start (omega arith) within.1 c.fill.auto.area c.fill.ensures in
    granted_call (load c.args.slot a.base a.size c.args.image.now) w _ (loaded c.args.slot a.base a.size c.args.image.now w)
    (loaded_shown c.args.store.now _ c.args.self.now.slots c.load.new.self c.args.self.now.buffers.table (g.B.Bank.devices c.args.self.now.bank) c.args.slot a.base a.size c.args.image.now full c.load.ensures)
    refl (c.in_ok-check_load.ensures.first c.args.store.now refl)
