-- The bounds that only a transfer order has, where its buffer is the program's.
use Rattle.std.proofs.Common.{◌≡◌, ℕ, Bool, false, cond, not, ◌&&◌, ◌||◌, ltb, leb, List, length, Some, None, Option, refl}
use Rattle.device.specs.Meaning.{Meaning}
use Rattle.order.specs.declared.code.TransferOrder.{TransferOrder}
use Rattle.word.specs.declared.q.Q.{Q}
use Rattle.registers.specs.Registers.{Regs, q_of}
use Rattle.buffers.specs.declared.buffer.Work.{Work}
use Rattle.buffers.specs.declared.buffer.Buffer.{Buffer}
use Rattle.buffers.specs.Buffers.{records, locked_between, is_busy}
use Rattle.outlook.specs.Own.{own_of}
use Rattle.outlook.specs.Bounds.{moves_words, asks_busy, transfer_bounds, first}
use Rattle.outlook.specs.declared.bound.Bound.TheVariants.{WordLock}
use Rattle.outlook.proofs.Lines.{Held, is_there, same_work, locked_lines}

module _ (x : TransferOrder) (n slot : ℕ) (regs : Regs) (area : List ℕ) (ready : Bool) (table : List Buffer) (bank : ℕ → Option Meaning) (q : Q) (w : Work) where
  -- where the first three are kept, the locks decide
  pub by_lock : q ≡ q_of n regs → Held slot q.c table w →
      (moves_words x && (ltb q.m q.i || leb (length area) q.m)) ≡ false → (not (asks_busy x) && is_busy w) ≡ false →
      first (transfer_bounds x n (own_of slot regs area ready (records table) bank)) ≡ cond (moves_words x && locked_between slot (records table) q.i q.m) (Some WordLock) None
  by_lock eq here limits busy =
      rw (← eq) (rw (is_there slot q.c table bank w here, limits, same_work slot q.c table bank w here, busy, locked_lines slot (records table) bank q.i q.m) refl)
