use Rattle.std.proofs.Common.{◌≡◌, ℕ, get_or, set, None, sym, ap, ◌∙◌, arith}
use Rattle.std.specs.Option.{option_map}
use Rattle.device.specs.Bank.{standing}
use Rattle.device.specs.Words.{words}
use Rattle.transfer.specs.Moves.{effect}
use Rattle.buffers.specs.Buffers.{free, records, with_work}
use Rattle.program.specs.Effects.{move_by, work_by}
use Rattle.program.specs.Kept.{update}
use Rattle.program.proofs.Changes.{set_update}
use Rattle.program.proofs.Moves.{move_done, move_refused}
use Rattle.program.proofs.moving.do_move.Given as given
use Rattle.program.proofs.moving.do_move.Goals as goal
use Rattle.program.proofs.moving.do_move.Goals.{After-make_move-moved}

-- the bank after the move differs at the buffer alone
bank_then : (g : given.Over) (c : After-make_move-moved g) (k : ℕ) →
    standing (g.B.Bank.devices c.make_move-moved.new.bank) k
    ≡ update (standing (g.B.Bank.devices c.args.bank.now)) c.args.q.c (effect (move_by c.args.kind c.args.q) c.args.area.now (standing (g.B.Bank.devices c.args.bank.now) c.args.q.c)).device k
bank_then g c k =
    ap (λ b. get_or b k None) c.make_move-moved.ensures.after
    ∙ set_update (g.B.Bank.devices c.args.bank.now) c.args.q.c _ None (omega (arith, (g.met.B.Bank.whole c.args.bank.now).sixteen)) k

pub returns-in-None-clause-own : goal.returns-in-None-clause-own
returns-in-None-clause-own g c slot ready held =
    let s = (goal.at.returns-in-None-clause-own g c).After-make_move-moved in
    let e = c.make_move-moved.ensures in
    let q = c.args.q in
    let table = c.args.buffers.now.table in
    let begun : (k : ℕ) → records c.begin.new.self.table k ≡ update (records table) q.c (with_work (work_by c.args.kind q) (records table q.c)) k = λ k.
    ap (λ t. get_or t k free) c.begin.ensures
    ∙ ap (λ w. get_or (set table q.c (with_work w (records table q.c))) k free) c.work_by.ensures
    ∙ set_update table q.c _ free (omega (arith, c.args.buffers.now.sixteen)) k in
    move_done slot c.args.kind q c.args.place c.args.regs.now c.args.area.now _ (records table) (standing (g.B.Bank.devices c.args.bank.now)) _ _ held e.area e.moved (bank_then g s) _ _ begun c.go_to.ensures (sym (ap (option_map words) c.in-None.is) ∙ e.refused) ready

pub returns-in-Some-clause-own : goal.returns-in-Some-clause-own
returns-in-Some-clause-own g c slot ready held =
    let s = (goal.at.returns-in-Some-clause-own g c).After-make_move-moved in
    let e = c.make_move-moved.ensures in
    move_refused slot c.args.kind c.args.q c.args.place c.args.regs.now c.args.area.now _ (records c.args.buffers.now.table) (standing (g.B.Bank.devices c.args.bank.now)) _ _ held e.area e.moved (bank_then g s) _ (sym (ap (option_map words) c.in-Some.is) ∙ e.refused) ready
