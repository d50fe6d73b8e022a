use Rattle.std.proofs.Common.{◌-◌}
use Rattle.transfer.specs.Symbols.{gather}
use Rattle.device.specs.Bank.{standing}
use Rattle.transfer.proofs.Movement.{SoFar, count}
use Rattle.transfer.proofs.Gathering.{Going}
use Rattle.transfer.proofs.reading.read_word.Given as goal

abbrev pub invariant-loop-k : goal.invariant-loop-k
invariant-loop-k g l =
    let d = g.B.Bank.devices in
    let whole = gather l.ends 8 (standing (d l.initial.bank) l.n) in
    let rest = gather l.ends l.k (standing (d l.bank) l.n) in
    Going whole rest l.k l.word × SoFar l.n (d l.initial.bank) (count whole) (8 - l.k) (count rest) (d l.bank)
