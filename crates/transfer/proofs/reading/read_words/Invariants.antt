use Rattle.std.proofs.Common.{◌≡◌, ◌-◌, ◌*◌, length}
use Rattle.transfer.specs.Symbols.{gather, stored}
use Rattle.device.specs.Bank.{standing}
use Rattle.transfer.proofs.Movement.{SoFar, count}
use Rattle.transfer.proofs.reading.read_words.Given as goal

abbrev pub invariant-loop-cell : goal.invariant-loop-cell
invariant-loop-cell g l =
    let d = g.B.Bank.devices in
    let left = length l.initial.area - l.cell-index in
    let whole = gather l.ends (8 * length l.initial.area) (standing (d l.initial.bank) l.n) in
    let rest = gather l.ends (8 * left) (standing (d l.bank) l.n) in
    (stored left l.cell-index rest.symbols l.area ≡ stored (length l.initial.area) 0 whole.symbols l.initial.area)
    × SoFar l.n (d l.initial.bank) (count whole) l.symbols (count rest) (d l.bank)
