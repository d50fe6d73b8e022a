use Rattle.std.proofs.Common.{◌≡◌, Some, None, Ok, Err, ap, ◌∙◌, sym}
use Rattle.slots.specs.Held.{world_of}
use Rattle.slots.specs.declared.slots.State.TheVariants.{Empty, Ready, Stopped}
use Rattle.program.specs.Told.{told}
use Rattle.program.specs.Told.Told.{broke}
use Rattle.host.specs.Causes.{ending_of, endings_of}
use Rattle.machine.specs.Shown.{shown, token_of}
use Rattle.machine.proofs.Steps.{given_again, refused_step, fails_over, fails_empty, fails_stopped, fails_short, ready_there, granted_ahead, tried_breaks, step_settled}
use Rattle.machine.proofs.machine.Machine.step.Goals as goal

pub returns-in_default-Some-default : goal.returns-in_default-Some-default
returns-in_default-Some-default g c =
    given_again (token_of c.args.turn.now) (shown g.B.Bank.devices c.args.store.now c.args.self.now) (ending_of c.in_default-Some-default.ending) (ap endings_of c.in_default-Some-default.is-1)

pub returns-in-None-None-default : goal.returns-in-None-None-default
returns-in-None-None-default g c =
    let w = shown g.B.Bank.devices c.args.store.now c.args.self.now in
    refused_step (token_of c.args.turn.now) w 1 (ap endings_of c.in-None-None-default.is-1)
    (fails_over c.args.turn.now.slot w (sym c.in-None-None-default.is-0 ∙ c.state.ensures))

pub returns-in-Some-Empty-None-default : goal.returns-in-Some-Empty-None-default
returns-in-Some-Empty-None-default g c =
    let s : c.state.result ≡ Some Empty = cc in
    let w = shown g.B.Bank.devices c.args.store.now c.args.self.now in
    refused_step (token_of c.args.turn.now) w 10 (ap endings_of c.in-Some-Empty-None-default.is-1)
    (fails_empty c.args.turn.now.slot w (sym s ∙ c.state.ensures))

pub returns-in-Some-Stopped-None-default : goal.returns-in-Some-Stopped-None-default
returns-in-Some-Stopped-None-default g c =
    let s : c.state.result ≡ Some Stopped = cc in
    let w = shown g.B.Bank.devices c.args.store.now c.args.self.now in
    refused_step (token_of c.args.turn.now) w 15 (ap endings_of c.in-Some-Stopped-None-default.is-1)
    (fails_stopped c.args.turn.now.slot w (sym s ∙ c.state.ensures))

pub returns-in-Some-Ready-None-None : goal.returns-in-Some-Ready-None-None
returns-in-Some-Ready-None-None g c =
    let s : c.state.result ≡ Some Ready = cc in
    let a : c.ahead.result ≡ None = cc in
    let w = shown g.B.Bank.devices c.args.store.now c.args.self.now in
    let h = ready_there c.args.turn.now.slot w (sym s ∙ c.state.ensures) in
    refused_step (token_of c.args.turn.now) w 16 (ap endings_of c.in-Some-Ready-None-None.is-1)
    (fails_short c.args.turn.now.slot w c.ahead.result h c.ahead.ensures a)

pub returns-in-Some-Ready-None-Some-Err : goal.returns-in-Some-Ready-None-Some-Err
returns-in-Some-Ready-None-Some-Err g c =
    let s : c.state.result ≡ Some Ready = cc in
    let t = c.args.turn.now in
    let w = shown g.B.Bank.devices c.args.store.now c.args.self.now in
    let b = c.in-Some-Ready-None-Some-Err.bound in
    let h = ready_there t.slot w (sym s ∙ c.state.ensures) in
    let a : c.ahead.result ≡ Some (Err b) = cc in
    step_settled (token_of t) (token_of c.settle.new.turn) w w (shown g.B.Bank.devices c.args.store.now c.settle.new.self) (broke b) c.place-place.result
    (granted_ahead t.slot w c.ahead.result (Err b) h c.ahead.ensures a) (ap endings_of c.in-Some-Ready-None-Some-Err.is-1) (tried_breaks t.slot w c.ahead.result b h c.ahead.ensures a) c.place-place.ensures (c.settle.ensures c.args.store.now)

pub returns-in-Some-Ready-None-Some-Ok : goal.returns-in-Some-Ready-None-Some-Ok
returns-in-Some-Ready-None-Some-Ok g c =
    let s : c.state.result ≡ Some Ready = cc in
    let t = c.args.turn.now in
    let w = shown g.B.Bank.devices c.args.store.now c.args.self.now in
    let h = ready_there t.slot w (sym s ∙ c.state.ensures) in
    let a : c.ahead.result ≡ Some (Ok c.in-Some-Ready-None-Some-Ok.next) = cc in
    let carried = world_of c.carry-outcome.new.store c.carry-outcome.new.self c.carry-outcome.new.buffers.table (g.B.Bank.devices c.carry-outcome.new.bank) in
    let settled = c.settle-in-Some-Ready-None-Some-Ok in
    step_settled (token_of t) (token_of settled.new.turn) w carried
    (shown g.B.Bank.devices c.carry-outcome.new.store settled.new.self) (told c.carry-outcome.result) c.place-place.result
    (granted_ahead t.slot w c.ahead.result (Ok c.in-Some-Ready-None-Some-Ok.next) h c.ahead.ensures a) (ap endings_of c.in-Some-Ready-None-Some-Ok.is-1) c.carry-outcome.ensures c.place-place.ensures (settled.ensures c.carry-outcome.new.store)
