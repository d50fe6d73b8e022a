use Rattle.host.proofs.Stepping.{turn_is_steps}
use Rattle.host.proofs.laws.turn_is_steps.Goals as goal

pub returns : goal.returns
returns c p n w small e = turn_is_steps p n w small e
