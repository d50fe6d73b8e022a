use Rattle.registers.proofs.Soundness.{sound}
use Rattle.registers.proofs.laws.registers_sound.Goals as goal

pub returns : goal.returns
returns c = sound
