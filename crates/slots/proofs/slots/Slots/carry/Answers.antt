use Rattle.std.proofs.Common.{None, ap, ◌∙◌, arith}
use Rattle.std.specs.Option.{option_map}
use Rattle.buffers.specs.Buffers.{records}
use Rattle.device.specs.Bank.{standing}
use Rattle.program.specs.Told.{told}
use Rattle.slots.specs.Ahead.{ahead_of}
use Rattle.slots.specs.Held.{program_of}
use Rattle.slots.proofs.Orders.{ahead_at, none_ahead, known, carried_world}
use Rattle.slots.proofs.slots.Slots.carry.Goals as goal

pub listed : goal.listed
listed g c =
    let at = ahead_at c.args.self.now.table _ c.args.p None c.args.store.now (records c.args.buffers.now.table) _ c.from.ensures c.requires.ahead in
    omega arith

pub bounds-self-from : goal.bounds-self-from
bounds-self-from g c =
    let at = ahead_at c.args.self.now.table _ c.args.p None c.args.store.now (records c.args.buffers.now.table) _ c.from.ensures c.requires.ahead in
    omega arith

pub unreachable-requires : goal.unreachable-requires
unreachable-requires g c =
    let store = c.args.store.now in
    let buffers = records c.args.buffers.now.table in
    let at = ahead_at c.args.self.now.table _ c.args.p c.index-self-from.result store buffers _ c.from.ensures c.requires.ahead in
    none_ahead c.args.p store buffers _
    (λ ready bank. c.requires.ahead ready bank ∙ ap (λ o. ahead_of c.args.p (option_map program_of o) store buffers ready bank) (at.1 ∙ c.in_default.is))

pub carry-requires : goal.carry-requires
carry-requires g c =
    let store = c.args.store.now in
    let buffers = records c.args.buffers.now.table in
    let at = ahead_at c.args.self.now.table _ c.args.p c.index-self-from.result store buffers _ c.from.ensures c.requires.ahead in
    let k = known c.args.p (program_of c.in-Some.program) store buffers _
    (λ ready bank. c.requires.ahead ready bank ∙ ap (λ o. ahead_of c.args.p (option_map program_of o) store buffers ready bank) (at.1 ∙ c.in-Some.is)) in
    record { inside = k.inside; ahead = k.ahead }

pub returns : goal.returns
returns g c =
    let at = ahead_at c.args.self.now.table _ c.args.p c.index-self-from.result c.args.store.now (records c.args.buffers.now.table) _ c.from.ensures c.requires.ahead in
    carried_world c.args.p _ c.args.self.now.table (program_of c.in-Some.program) c.carry.new.self c.args.store.now c.carry.new.store
    (records c.args.buffers.now.table) (records c.carry.new.buffers.table) (standing (g.B.Bank.devices c.args.bank.now)) (standing (g.B.Bank.devices c.carry.new.bank))
    (told c.carry.result) c.from.ensures at.0 (ap (option_map program_of) (at.1 ∙ c.in-Some.is)) c.carry.ensures
