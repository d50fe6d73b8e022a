use Rattle.std.proofs.Common.{refl}
use lib.Count.{ones, ones_in}
use Rattle.units.specs.Frames.{sound_frame}
use Rattle.units.proofs.laws.two_frames_read.Goals as goal

pub returns : goal.returns
unfolding sound_frame ones ones_in
returns c = record { first = refl; second = refl; head = refl; third = refl; still = refl }
