-- What one program owns. Nothing in it says where the program's area begins in the store, or which slot it is in.
--
-- Line            a buffer as its program has it: what stands on it, and what it is at
-- Own             the entries of its area, its registers, being ready or stopped, and for each number its buffer, if it is its own
-- lines_of        the buffers of a slot, from the records of all buffers and what stands on each
-- own_of          what the program in a slot owns, as the code has it
-- lines_locked    whether one of the words from the first to the last address is locked by a buffer of the program
use Rattle.std.specs.Prelude.{ℕ, ◌+◌, ◌-◌, Bool, true, false, List, Some, None, Option}
use Rattle.device.specs.Meaning.{Meaning}
use Rattle.registers.specs.Registers.{Regs}
use Rattle.buffers.specs.declared.buffer.Work.{Work}
use Rattle.buffers.specs.declared.buffer.Work.TheVariants.{Idle}
use Rattle.buffers.specs.declared.buffer.Buffer.{Buffer}
use Rattle.buffers.specs.Buffers.{holds, locks, any_below}

pub record Line : Type 0 where
  pub device : Option Meaning
  pub work : Work

pub record Own : Type 0 where
  pub area : List ℕ
  pub regs : Regs
  pub ready : Bool
  pub lines : ℕ → Option Line

abbrev pub line_if : Bool → Option Meaning → Work → Option Line
line_if true d w = Some (record { device = d; work = w })
line_if false d w = None

abbrev pub lines_of : ℕ → (ℕ → Buffer) → (ℕ → Option Meaning) → ℕ → Option Line
lines_of slot buffers bank k = line_if (holds slot (buffers k)) (bank k) (buffers k).work

abbrev pub owning : List ℕ → Regs → Bool → (ℕ → Option Line) → Own
owning area regs ready lines = record { area = area; regs = regs; ready = ready; lines = lines }

abbrev pub own_of : ℕ → Regs → List ℕ → Bool → (ℕ → Buffer) → (ℕ → Option Meaning) → Own
own_of slot regs area ready buffers bank = owning area regs ready (lines_of slot buffers bank)

-- the work and the device of a buffer; where it is not the program's, idle and none
abbrev pub line_work : Option Line → Work
line_work (Some l) = l.work
line_work None = Idle

abbrev pub line_device : Option Line → Option Meaning
line_device (Some l) = l.device
line_device None = None

abbrev pub line_locked : (ℕ → Option Line) → ℕ → Bool
line_locked lines a = any_below 16 (λ k. locks (line_work (lines k)) a)

abbrev pub lines_locked : (ℕ → Option Line) → ℕ → ℕ → Bool
lines_locked lines first last = any_below (last + 1 - first) (λ j. line_locked lines (first + j))
