-- An order of the program in a slot, carried out over the store, the buffers and the devices.
use Rattle.std.specs.Prelude.{◌≡◌, ℕ, List, Option}
use Rattle.device.specs.Meaning.{Meaning}
use Rattle.buffers.specs.declared.buffer.Buffer.{Buffer}
use Rattle.outlook.specs.Own.{Own, lines_of, owning}
use Rattle.program.specs.Kept.{Kept}
use Rattle.program.specs.Told.{Told}
use Rattle.host.specs.Turns.{try}
use Rattle.host.specs.World.{Program, part, put_part, with_own}

-- from the program, the store, the buffers and the devices before to those after, and what it came to
pub record Carried (p : ℕ) (before after : Program) (store store' : List ℕ) (buffers buffers' : ℕ → Buffer) (bank bank' : ℕ → Option Meaning) (x : Told) : Type 0 where
  pub owns : Own
  pub tried : try (owning (part before.base before.size store) before.regs before.ready (lines_of p buffers bank)) ≡ (owns, x)
  pub then : after ≡ with_own before owns
  pub stored : store' ≡ put_part before.base owns.area store
  pub lines : lines_of p buffers' bank' ≡ owns.lines
  pub kept : Kept p buffers buffers' bank bank'
