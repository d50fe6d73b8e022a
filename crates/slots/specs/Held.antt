-- The slots of the code, as the programs that they hold, and the world that they make with a store, buffers and devices.
--
-- program_of   a program of the code, as a program
-- program_at   the program in a slot by number, if one is there
-- world_of     the world of a store, slots, buffers and devices
-- state_of     the state of a slot
-- halted       a slot with its program stopped
-- asked        what a question answers of a slot by number; area_of, regs_held: two such questions
use Rattle.std.specs.Prelude.{ℕ, Bool, true, false, cond, not, List, Some, None, Option, option_map, nat_lt, slice_index_or}
use Rattle.device.specs.Bank.{Devices, standing}
use Rattle.registers.specs.Registers.{Regs}
use Rattle.buffers.specs.declared.buffer.Buffer.{Buffer}
use Rattle.buffers.specs.Buffers.{records}
use Rattle.host.specs.World.{World, Program}
use Rattle.slots.specs.declared.slots.State.{State}
use Rattle.slots.specs.declared.slots.State.TheVariants.{Empty, Ready, Stopped}
use Rattle.slots.specs.declared.area.Area.{Area}
use Rattle.slots.specs.declared.slots.Program.{Program as ToldProgram}
use Rattle.slots.specs.declared.slots.Slots.{Slots}

abbrev pub program_of : ToldProgram → Program
program_of g = record { base = g.area.base; size = g.area.size; regs = g.registers; ready = not g.stopped }

abbrev pub program_at : Slots → ℕ → Option Program
program_at s p = option_map program_of (slice_index_or s.table p None)

abbrev pub world_of : List ℕ → Slots → List Buffer → Devices → World
world_of store slots buffers devices = record {
  store = store;
  slots = program_at slots;
  buffers = records buffers;
  bank = standing devices;
}

abbrev pub ready_or_stopped : Bool → State
ready_or_stopped true = Ready
ready_or_stopped false = Stopped

abbrev pub state_of : Option Program → State
state_of None = Empty
state_of (Some g) = ready_or_stopped g.ready

abbrev pub state_is : Option Program → Option State
state_is o = Some (state_of o)

-- a program that is stopped
abbrev pub halted : Option Program → Option Program
halted None = None
halted (Some g) = Some (record { base = g.base; size = g.size; regs = g.regs; ready = false })

-- a question about a slot by number; over 3 there is nothing
abbrev pub asked : {X : Type 0} → (Option Program → Option X) → Slots → ℕ → Option X
asked f s p = cond (nat_lt 3 p) None (f (program_at s p))

-- the area and the registers of a program, if there is one
abbrev pub area_of : Option Program → Option Area
area_of None = None
area_of (Some g) = Some (record { base = g.base; size = g.size })

abbrev pub regs_held : Option Program → Option Regs
regs_held None = None
regs_held (Some g) = Some g.regs
