use Rattle.word.proofs.Bitwise.{place_laws}
use Rattle.word.proofs.laws.places_hold.Goals as goal

pub returns : goal.returns
returns c = place_laws
