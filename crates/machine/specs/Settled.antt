-- What an order of a turn came to, noted in the turn's token, and its program stopped where that has to be.
use Rattle.std.specs.Prelude.{◌≡◌, ℕ, cond}
use Rattle.program.specs.Kept.{update}
use Rattle.program.specs.Told.{Told}
use Rattle.host.specs.World.{World}
use Rattle.host.specs.Turns.{stops}
use Rattle.host.specs.Steps.{Token, told_of}
use Rattle.slots.specs.Held.{halted}

-- the world with the program in a slot stopped
abbrev pub stopped_in : ℕ → World → World
stopped_in p w = record { store = w.store; slots = update w.slots p (halted (w.slots p)); buffers = w.buffers; bank = w.bank }

pub record Settled (place : ℕ) (x : Told) (t t' : Token) (w w' : World) : Type 0 where
  pub token : t' ≡ told_of t place x
  pub world : w' ≡ cond (stops x) (stopped_in t.slot w) w
