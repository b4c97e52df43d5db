use Rattle.operators.proofs.Climbs.{joins}
use Rattle.operators.proofs.laws.trees_join.Goals as goal

pub returns : goal.returns
returns g c = joins
