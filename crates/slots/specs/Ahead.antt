-- What is ahead of the program in a slot: its next order, or the first bound that this breaks; nothing where no program
-- is, or the store ends before its area. Neither being ready or stopped nor a device counts for it.
use Rattle.std.specs.Prelude.{ℕ, Bool, cond, List, length, Some, None, Option, Result}
use Rattle.device.specs.Meaning.{Meaning}
use Rattle.buffers.specs.declared.buffer.Buffer.{Buffer}
use Rattle.outlook.specs.Own.{owning, lines_of}
use Rattle.outlook.specs.Outlook.{foreseen}
use Rattle.outlook.specs.declared.bound.Bound.{Bound}
use Rattle.outlook.specs.declared.next.Next.{Next}
use Rattle.host.specs.World.{Program, part}
use Rattle.host.specs.Calls.{cut_off}

abbrev pub ahead_of : ℕ → Option Program → List ℕ → (ℕ → Buffer) → Bool → (ℕ → Option Meaning) → Option (Result Next Bound)
ahead_of p None store buffers ready bank = None
ahead_of p (Some g) store buffers ready bank =
    cond (cut_off (length store) (Some g)) None
    (Some (foreseen (owning (part g.base g.size store) g.regs ready (lines_of p buffers bank))))
