use Rattle.operators.proofs.Left.{from_left_lem}
use Rattle.operators.proofs.laws.equals_group_from_the_left.Goals as goal

pub returns : goal.returns
returns g c = from_left_lem
