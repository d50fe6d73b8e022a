use Rattle.std.proofs.Common.{subst}
use Rattle.registers.specs.Sound.{Sound}
use Rattle.registers.proofs.Soundness.{sound}
use Rattle.registers.proofs.registers.Registers.sound.Goals as goal

pub returns : goal.returns
returns c = subst Sound c.self.view_is (sound c.self.inside c.self.invariant)
