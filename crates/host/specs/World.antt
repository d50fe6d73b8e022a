-- The whole state of a machine over a store, as a value, and the part of it that the program in a slot owns.
--
-- Program      a slot in use: the base and the size of its area, its registers, and being ready or stopped
-- World        the store, the slots, the buffers, and what stands on each buffer. A number that is no slot's is an empty slot's
-- part         the words of a store from a base on; put_part: a store with other words from a base on
-- own_in       what a program in a slot owns; owned: what the program that is in a slot owns, if one is there
-- put          the world in which the program in a slot owns something else, and all that is not its own is as it was
use Rattle.std.specs.Prelude.{ℕ, ◌+◌, Bool, cond, List, ◌++◌, length, take, drop, Some, None, Option}
use Rattle.device.specs.Meaning.{Meaning}
use Rattle.registers.specs.Registers.{Regs}
use Rattle.buffers.specs.declared.buffer.Buffer.{Buffer}
use Rattle.buffers.specs.Buffers.{holds, with_work}
use Rattle.outlook.specs.Own.{Own, Line, lines_of, owning}
use Rattle.program.specs.Kept.{update}

pub record Program : Type 0 where
  pub base : ℕ
  pub size : ℕ
  pub regs : Regs
  pub ready : Bool

pub record World : Type 0 where
  pub store : List ℕ
  pub slots : ℕ → Option Program
  pub buffers : ℕ → Buffer
  pub bank : ℕ → Option Meaning

unfoldable pub part : ℕ → ℕ → List ℕ → List ℕ
part base size store = take size (drop base store)

unfoldable pub put_part : ℕ → List ℕ → List ℕ → List ℕ
put_part base words store = take base store ++ (words ++ drop (base + length words) store)

-- all addresses are counted from the base, which is therefore no part of what a program owns
abbrev pub own_in : ℕ → Program → World → Own
own_in slot g w = owning (part g.base g.size w.store) g.regs g.ready (lines_of slot w.buffers w.bank)

abbrev pub owned_by : ℕ → World → Option Program → Option Own
owned_by slot w None = None
owned_by slot w (Some g) = Some (own_in slot g w)

abbrev pub owned : ℕ → World → Option Own
owned slot w = owned_by slot w (w.slots slot)

-- a program with the registers, and ready or stopped, of what it owns
abbrev pub with_own : Program → Own → Program
with_own g o = record { base = g.base; size = g.size; regs = o.regs; ready = o.ready }

-- a buffer with the work, and what stands on it, of a program's line
abbrev pub line_put : Buffer → Option Line → Buffer
line_put b (Some l) = with_work l.work b
line_put b None = b

abbrev pub device_put : Option Meaning → Option Line → Option Meaning
device_put d (Some l) = l.device
device_put d None = d

unfoldable pub put : ℕ → Program → Own → World → World
put slot g o w = record {
  store = put_part g.base o.area w.store;
  slots = update w.slots slot (Some (with_own g o));
  buffers = λ k. cond (holds slot (w.buffers k)) (line_put (w.buffers k) (o.lines k)) (w.buffers k);
  bank = λ k. cond (holds slot (w.buffers k)) (device_put (w.bank k) (o.lines k)) (w.bank k);
}
