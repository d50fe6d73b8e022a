use Rattle.std.proofs.Common.{◌≤◌, vec_items, vec_len, vec_capacity}
use Rattle.device.specs.Bank.{standing}
use Rattle.device.proofs.Standing.{Beside}
use Rattle.tape_copy.proofs.Passing.{Going}
use Rattle.tape_copy.proofs.reading.read_out.Given as goal

abbrev pub invariant-loop-number : goal.invariant-loop-number
invariant-loop-number g l =
    let d = g.B.Bank.devices in
    Going (standing (d l.initial.bank) l.n) (standing (d l.bank) l.n) (vec_items l.symbols) (vec_items l.damaged) l.number
    × Beside l.n (d l.initial.bank) (d l.bank)
    × (vec_len l.symbols ≤ l.number) × (vec_len l.damaged ≤ l.number) × (4096 ≤ vec_capacity l.symbols) × (4096 ≤ vec_capacity l.damaged)
