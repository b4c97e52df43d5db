use Rattle.grammar.proofs.Unique.{same-BE}
use Rattle.grammar.proofs.no_condition_has_two_readings.Goals as goal

pub returns : goal.returns
returns c = same-BE
