use Rattle.std.proofs.Common.{◌≡◌, ◌≤◌, true, None, arith}
use Rattle.std.proofs.lemmas.Bool.Decides.{nat_tests}
use Rattle.buffers.specs.Buffers.{records, holds}
use Rattle.outlook.specs.Own.{own_of}
use Rattle.program.proofs.Granted.{may_register, may_store, may_index, may_out, may_transfer}
use Rattle.program.proofs.carry.carry_next.Given as given
use Rattle.program.proofs.carry.carry_next.Goals as goal
use Rattle.program.proofs.carry.carry_next.Goals.{After-q_of-parts}

pub carry_out-requires : goal.carry_out-requires
carry_out-requires g c =
    let o = own_of c.args.slot c.args.regs.now c.args.area.now true (records c.args.buffers.now.table) (λ _. None) in
    let h = may_register o c.args.next (c.requires true (λ _. None)) _ c.go_to.ensures _ c.in-Register.is in
    record { cells = h.0; length = h.1 }

pub on_store-requires : goal.on_store-requires
on_store-requires g c =
    let o = own_of c.args.slot c.args.regs.now c.args.area.now true (records c.args.buffers.now.table) (λ _. None) in
    let h = may_store o c.args.next (c.requires true (λ _. None)) _ c.go_to-in-Store.ensures _ _ _ c.in-Store.is in
    record { cells = h.0; inside = grind (arith, nat_tests, h.1) }

pub on_indexed-requires : goal.on_indexed-requires
on_indexed-requires g c =
    let o = own_of c.args.slot c.args.regs.now c.args.area.now true (records c.args.buffers.now.table) (λ _. None) in
    let h = may_index o c.args.next (c.requires true (λ _. None)) _ c.go_to-in-Indexed.ensures _ _ _ c.in-Indexed.is in
    record { cells = h.0; inside = h.1 }

pub out-requires : goal.out-requires
out-requires g c =
    let o = own_of c.args.slot c.args.regs.now c.args.area.now true (records c.args.buffers.now.table) (λ _. None) in
    may_out o c.args.next (c.requires true (λ _. None)) _ c.go_to-in-Out.ensures c.in-Out.is

-- the buffer that a transfer order's Q names
there : (g : given.Over) (c : After-q_of-parts g) → (c.q_of-parts.result.c ≤ 15) × (holds c.args.slot (records c.args.buffers.now.table c.q_of-parts.result.c) ≡ true)
there g c = may_transfer c.args.slot c.args.regs.now c.args.area.now (records c.args.buffers.now.table) c.args.next _ _ _ (c.requires true (λ _. None)) c.in-Transfer.is c.q_of-parts.ensures

pub do_move-requires : goal.do_move-requires
do_move-requires g c = (there g (goal.at.do_move-requires g c).After-q_of-parts).0

pub returns-in-Some : goal.returns-in-Some
returns-in-Some g c =
    let held = (there g (goal.at.returns-in-Some g c).After-q_of-parts).1 in
    record { own = λ ready. grind (arith, c.do_move.ensures.own c.args.slot ready held); kept = c.do_move.ensures.kept c.args.slot held }

pub returns-in-None-clause-own : goal.returns-in-None-clause-own
returns-in-None-clause-own g c ready =
    let held = (there g (goal.at.returns-in-None-clause-own g c).After-q_of-parts).1 in
    grind (arith, nat_tests, held)
