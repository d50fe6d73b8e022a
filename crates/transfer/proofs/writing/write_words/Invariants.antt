use Rattle.std.proofs.Common.{◌-◌, length}
use Rattle.transfer.specs.Symbols.{send, spread}
use Rattle.device.specs.Bank.{standing}
use Rattle.transfer.proofs.Movement.{SoFar}
use Rattle.transfer.proofs.writing.write_words.Given as goal

abbrev pub invariant-loop-word : goal.invariant-loop-word
invariant-loop-word g l =
    let d = g.B.Bank.devices in
    let whole = send l.ends (spread (length l.area) 0 l.area) (standing (d l.initial.bank) l.n) in
    let rest = send l.ends (spread (length l.area - l.word-index) l.word-index l.area) (standing (d l.bank) l.n) in
    SoFar l.n (d l.initial.bank) whole l.symbols rest (d l.bank)
