use Rattle.device.specs.Changing.{write_changed}
use Rattle.device.proofs.code_changer.CodeChangerDevice.write.Goals as goal

pub returns-clause-after : goal.returns-clause-after
returns-clause-after g c =
    let h = c.hide-hidden.ensures in
    write_changed c.args.self.now.table.shown _ _ c.args.symbol h.0 h.1 c.write.ensures.after
