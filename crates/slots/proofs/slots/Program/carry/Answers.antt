use Rattle.std.proofs.Common.{◌≡◌, ◌-◌, length, ◌∙◌, arith, length-drop, length-take}
use Rattle.buffers.specs.Buffers.{records}
use Rattle.device.specs.Bank.{standing}
use Rattle.host.specs.World.{part}
use Rattle.program.specs.Told.{told}
use Rattle.slots.specs.Held.{program_of}
use Rattle.slots.proofs.Orders.{carried_out}
use Rattle.slots.proofs.slots.Program.carry.Goals as goal

pub carry_next-outcome-requires : goal.carry_next-outcome-requires
unfolding part
carry_next-outcome-requires g c ready bank =
    let n : c.range.result.end - c.range.result.start ≡ c.args.self.now.area.size = omega arith in
    rw (n, c.range.ensures.start) (c.requires.ahead ready bank)

pub returns : goal.returns
unfolding part
returns g c =
    let s = c.args.self.now in
    let n : c.range.result.end - c.range.result.start ≡ s.area.size = omega arith in
    let long : length c.carry_next-outcome.new.area ≡ s.area.size = c.carry_next-outcome.auto.area ∙ simp (length-take, length-drop) (omega (arith, c.requires.inside)) in
    rw (n, c.range.ensures.start)
    (carried_out c.args.p (program_of s) c.carry_next-outcome.new.regs c.args.store.now c.carry_next-outcome.new.area
    (records c.args.buffers.now.table) (records c.carry_next-outcome.new.buffers.table) (standing (g.B.Bank.devices c.args.bank.now)) (standing (g.B.Bank.devices c.carry_next-outcome.new.bank))
    c.args.next (told c.carry_next-outcome.result) long c.requires.ahead (λ ready. rw (n, c.range.ensures.start) at (c.carry_next-outcome.ensures.own ready)) c.carry_next-outcome.ensures.kept)

pub invariant_of-self : goal.invariant_of-self
invariant_of-self g c = record { sound = c.sound.ensures }
