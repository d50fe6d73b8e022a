-- What an order of the program in a slot leaves as it was: whose each buffer is, and all of those that are not its own.
--
-- update    a function with another value at one number
-- Kept      from the buffers and devices before to those after
use Rattle.std.specs.Prelude.{◌≡◌, ℕ, false, cond, Option, ◌==◌}
use Rattle.device.specs.Meaning.{Meaning}
use Rattle.buffers.specs.declared.buffer.Buffer.{Buffer}
use Rattle.buffers.specs.Buffers.{holds}

abbrev pub update : {X : Type 0} → (ℕ → X) → ℕ → X → ℕ → X
update f at x k = cond (k == at) x (f k)

pub record Kept (slot : ℕ) (buffers buffers' : ℕ → Buffer) (bank bank' : ℕ → Option Meaning) : Type 0 where
  pub owners : (k : ℕ) → (buffers' k).owner ≡ (buffers k).owner
  pub others : (k : ℕ) → holds slot (buffers k) ≡ false → buffers' k ≡ buffers k
  pub devices : (k : ℕ) → holds slot (buffers k) ≡ false → bank' k ≡ bank k
