use Rattle.std.proofs.Common.{◌≡◌, ℕ, Bool, cond, Some, None, Option, sym, ap, ◌∙◌}
use Rattle.device.specs.Meaning.{Meaning}
use Rattle.outlook.specs.declared.bound.Bound.TheVariants.{WordLock}
use Rattle.outlook.specs.Bounds.{transfer_bounds, first, passed}
use Rattle.outlook.specs.View.{own_seen}
use Rattle.outlook.proofs.Lines.{held}
use Rattle.outlook.proofs.Transfers.{by_lock}
use Rattle.outlook.proofs.view.View.judge_transfer.Goals as goal
use Rattle.outlook.proofs.view.View.judge_transfer.Goals.{After-meets_lock}

module _ (c : After-meets_lock) (ready : Bool) (bank : ℕ → Option Meaning) where
  last : first (transfer_bounds c.args.order c.args.q (own_seen c.args.self.now ready bank)) ≡ cond c.meets_lock.result (Some WordLock) None
  last =
      let v = c.args.self.now in
      let q = c.q_of-q.result in
      by_lock c.args.order c.args.q v.slot v.regs.now v.area.now ready v.buffers.now.table bank q c.in-Some.work c.q_of-q.ensures (held v.slot q.c v.buffers.now.table c.in-Some.work v.buffers.now.sixteen c.in-Some.ensures) (sym c.if-limits_wrong.ensures) (sym c.if-held_up.ensures)
      ∙ ap (λ b. cond b (Some WordLock) None) (sym c.meets_lock.ensures)

pub returns-then-meets_lock : goal.returns-then-meets_lock
returns-then-meets_lock c = λ ready bank. sym (ap passed (last (goal.at.returns-then-meets_lock c).After-meets_lock ready bank ∙ ap (λ b. cond b (Some WordLock) None) c.if-meets_lock.true))

pub returns : goal.returns
returns c = λ ready bank. sym (ap passed (last (goal.at.returns c).After-meets_lock ready bank ∙ ap (λ b. cond b (Some WordLock) None) c.if-meets_lock.false))
