use Rattle.operators.proofs.Climbs.{climbs}
use Rattle.operators.proofs.laws.reading_climbs.Goals as goal

pub returns : goal.returns
returns g c = climbs
