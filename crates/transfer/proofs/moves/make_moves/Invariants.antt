use Rattle.std.proofs.Common.{◌≡◌, drop}
use Rattle.device.specs.Bank.{standing}
use Rattle.transfer.specs.Moves.{in_turn}
use Rattle.device.proofs.Standing.{Beside}
use Rattle.transfer.proofs.moves.make_moves.Given as goal

abbrev pub invariant-loop-x : goal.invariant-loop-x
invariant-loop-x g l =
    let d = g.B.Bank.devices in
    (in_turn (drop l.x-index l.moves) l.area (standing (d l.bank) l.n) ≡ in_turn l.moves l.initial.area (standing (d l.initial.bank) l.n))
    × Beside l.n (d l.initial.bank) (d l.bank)
