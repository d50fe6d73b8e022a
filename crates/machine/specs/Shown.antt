-- A machine over a store, as the world that it is; and a turn as its token.
--
-- shown       the world of a store and a machine, whose bank shows its devices
-- token_of    a turn of the code as its token
-- step_left   what a step left and answered
use Rattle.std.specs.Prelude.{ℕ, List, Option, Result}
use Rattle.device.specs.Bank.{Devices}
use Rattle.host.specs.World.{World}
use Rattle.host.specs.Causes.{endings_of}
use Rattle.host.specs.Steps.{Token, Stepped, step_told}
use Rattle.host.specs.declared.cause.Ending.{Ending}
use Rattle.host.specs.declared.refusal.Refusal.{Refusal}
use Rattle.slots.specs.Held.{world_of}
use Rattle.machine.specs.declared.machine.Machine.{Machine}
use Rattle.machine.specs.declared.turn.Turn.{Turn}

abbrev pub shown : {B : Type 0} → (B → Devices) → List ℕ → Machine B → World
shown devices store m = world_of store m.slots m.buffers.table (devices m.bank)

abbrev pub token_of : Turn → Token
token_of t = record { slot = t.slot; ending = endings_of t.ending; orders = t.orders }

abbrev pub step_left : {B : Type 0} → (B → Devices) → List ℕ → Machine B → Turn → Result (Option Ending) Refusal → Stepped
step_left devices store m t r = record { world = shown devices store m; token = token_of t; answer = step_told r }
