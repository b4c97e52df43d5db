use Rattle.grammar.proofs.Laws.{spelled_without_cause}
use Rattle.grammar.proofs.a_condition_within_its_limits_has_no_cause.Goals as goal

pub returns : goal.returns
returns c = spelled_without_cause
