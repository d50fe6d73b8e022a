use Rattle.std.proofs.Common.{◌-◌}
use Rattle.transfer.specs.Symbols.{send, unpacked}
use Rattle.device.specs.Bank.{standing}
use Rattle.transfer.proofs.Movement.{SoFar}
use Rattle.transfer.proofs.writing.write_word.Given as goal

abbrev pub invariant-loop-k : goal.invariant-loop-k
invariant-loop-k g l =
    let d = g.B.Bank.devices in
    SoFar l.n (d l.initial.bank) (send l.ends (unpacked 8 l.word) (standing (d l.initial.bank) l.n)) (8 - l.k) (send l.ends (unpacked l.k l.word) (standing (d l.bank) l.n)) (d l.bank)
