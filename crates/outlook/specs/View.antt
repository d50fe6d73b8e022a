-- What the program owns that an outlook is taken for.
use Rattle.std.specs.Prelude.{ℕ, Bool, Option}
use Rattle.device.specs.Meaning.{Meaning}
use Rattle.buffers.specs.Buffers.{records}
use Rattle.outlook.specs.Own.{Own, own_of}
use Rattle.outlook.specs.declared.view.View.{View}

-- what a view leaves out is whether the program is ready, and what stands on the buffers
abbrev pub own_seen : View → Bool → (ℕ → Option Meaning) → Own
own_seen v ready bank = own_of v.slot v.regs.now v.area.now ready (records v.buffers.now.table) bank
