-- A law of the host's calls.
use Rattle.std.specs.Prelude.{◌≡◌, ℕ, ◌^◌, ◌<◌, None}
use Rattle.host.specs.World.{World}
use Rattle.host.specs.Numbers.{Answer}
use Rattle.host.specs.Numbers.Answer.{ended}
use Rattle.host.specs.Calls.{refusal, perform}
use Rattle.host.specs.Calls.Call.{turn}
use Rattle.host.specs.Steps.{entered, steps, handed_back}

-- A turn of n orders that passes its checks is entering the slot, n steps, and handing back: the same world, the same answer.
abbrev pub TurnIsSteps : Type 0
TurnIsSteps =
    (p n : ℕ) (w : World)
    → n < 2 ^ 64
    → refusal (turn p n) w ≡ None
    → ◌≡◌ {A = World × Answer}
    ((steps n (entered p) w).0, ended (handed_back (steps n (entered p) w).1 (steps n (entered p) w).0))
    (perform (turn p n) w)
