use Rattle.std.proofs.Common.{drop}
use Rattle.device.specs.Bank.{standing}
use Rattle.device.proofs.Standing.{Beside}
use Rattle.tape_copy.specs.Copying.{written}
use Rattle.tape_copy.proofs.Sending.{Going}
use Rattle.tape_copy.proofs.writing.write_in.Given as goal

abbrev pub invariant-loop-i : goal.invariant-loop-i
invariant-loop-i g l =
    let d = g.B.Bank.devices in
    Going (written l.symbols (standing (d l.initial.bank) l.n)) (written (drop l.i l.symbols) (standing (d l.bank) l.n)) l.i
    × Beside l.n (d l.initial.bank) (d l.bank)
