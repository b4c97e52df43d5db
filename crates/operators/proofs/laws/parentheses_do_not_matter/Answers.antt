use Rattle.operators.proofs.Climbs.{unchanged}
use Rattle.operators.proofs.laws.parentheses_do_not_matter.Goals as goal

pub returns : goal.returns
returns g c = unchanged
