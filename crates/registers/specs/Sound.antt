-- What holds of the registers of every program, whatever its orders did.
use Rattle.std.specs.Prelude.{◌≡◌, ℕ, ◌^◌, ◌<◌, ◌≤◌, length, slice_index}
use Rattle.word.specs.Qs.{parts}
use Rattle.registers.specs.Registers.{Regs, q_of}

-- at most 16 words and 16 links, each word of 48 bits; sixteen Qs, of which Q0 is zero
pub record Sound (r : Regs) : Type 0 where
  pub nest_fits : length r.nest ≤ 16
  pub links_fit : length r.links ≤ 16
  pub words_fit : (i : ℕ) → slice_index r.nest i < 2 ^ 48
  pub sixteen : length r.qs ≡ 16
  pub zero : q_of 0 r ≡ parts 0 0 0
