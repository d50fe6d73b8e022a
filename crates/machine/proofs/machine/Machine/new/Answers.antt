use Rattle.machine.proofs.Calls.{made_shown}
use Rattle.machine.proofs.machine.Machine.new.Goals as goal

pub returns : goal.returns
returns g c store = made_shown store c.new.result c.new-2.result.table (g.B.Bank.devices c.args.bank) c.new.ensures c.new-2.result.sixteen c.new-2.ensures
