use Rattle.order.proofs.Agree.{agreement}
use Rattle.order.proofs.laws.rows_agree.Goals as goal

pub returns : goal.returns
returns c = agreement
