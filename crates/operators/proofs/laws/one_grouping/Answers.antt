use Rattle.operators.proofs.Exists.{one_grouping_lem}
use Rattle.operators.proofs.laws.one_grouping.Goals as goal

pub returns : goal.returns
returns g c = one_grouping_lem
