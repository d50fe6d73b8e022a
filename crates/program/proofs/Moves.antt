-- A move on what its program owns, from what the code did to area, registers, buffers and bank.
use Rattle.std.proofs.Common.{◌≡◌, ℕ, Bool, true, List, Some, None, Option, arith}
use Prim.Native.String.{String}
use Rattle.std.proofs.lemmas.Bool.Decides.{nat_tests}
use Rattle.device.specs.Meaning.{Meaning}
use Rattle.word.specs.declared.q.Q.{Q}
use Rattle.registers.specs.Registers.{Regs, with_place}
use Rattle.transfer.specs.Moves.{Effect, effect}
use Rattle.transfer.specs.declared.moves.Transfer.{Transfer as MovingKind}
use Rattle.buffers.specs.declared.buffer.Buffer.{Buffer}
use Rattle.buffers.specs.Buffers.{holds, with_work}
use Rattle.outlook.specs.Own.{lines_of, owning}
use Rattle.program.specs.Effects.{move_by, work_by, moved_by}
use Rattle.program.specs.Kept.{update}
use Rattle.program.specs.Told.Told.{done, refused}
use Rattle.program.proofs.Changes.{lines_changed, unchanged}

module _ (slot : ℕ) (k : MovingKind) (q : Q) (place : ℕ) (regs : Regs) (area area' : List ℕ) (buffers : ℕ → Buffer) (bank bank' : ℕ → Option Meaning) (moved : ℕ)
    (held : holds slot (buffers q.c) ≡ true)
    (ea : area' ≡ (effect (move_by k q) area (bank q.c)).area)
    (em : moved ≡ (effect (move_by k q) area (bank q.c)).moved)
    (ed : (n : ℕ) → bank' n ≡ update bank q.c (effect (move_by k q) area (bank q.c)).device n) where
  abbrev e : Effect
  e = effect (move_by k q) area (bank q.c)

  -- done: the buffer is at its work, and the place is the next
  pub move_done : (buffers' : ℕ → Buffer) (regs' : Regs) → ((n : ℕ) → buffers' n ≡ update buffers q.c (with_work (work_by k q) (buffers q.c)) n) → regs' ≡ with_place place regs →
      None ≡ e.refusal → (ready : Bool) → moved_by k q place (owning area regs ready (lines_of slot buffers bank)) ≡ (owning area' regs' ready (lines_of slot buffers' bank'), done moved)
  move_done buffers' regs' eb eg er ready =
      let lines = lines_changed slot q.c buffers buffers' bank bank' (work_by k q) e.device held eb ed in grind (arith, nat_tests, lines)

  -- refused: the buffers and the registers are as they were
  pub move_refused : (why : String) → Some why ≡ e.refusal → (ready : Bool) → moved_by k q place (owning area regs ready (lines_of slot buffers bank)) ≡ (owning area' regs ready (lines_of slot buffers bank'), refused q.c why moved)
  move_refused why er ready =
      let lines = lines_changed slot q.c buffers buffers bank bank' (buffers q.c).work e.device held (unchanged buffers q.c) ed in grind (arith, nat_tests, lines)
