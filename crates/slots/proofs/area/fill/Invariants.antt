use Rattle.std.proofs.Common.{◌≡◌, ℕ, ◌<◌, get_or}
use Rattle.host.specs.Calls.{image_word}
use Rattle.slots.proofs.area.fill.Given as goal

-- the words so far are the image's
abbrev pub invariant-loop-k : goal.invariant-loop-k
invariant-loop-k l = (j : ℕ) → j < l.k → get_or l.area j 0 ≡ image_word l.image j
