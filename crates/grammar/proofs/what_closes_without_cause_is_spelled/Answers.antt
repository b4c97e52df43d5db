use Rattle.grammar.proofs.Laws.{without_cause_spelled}
use Rattle.grammar.proofs.what_closes_without_cause_is_spelled.Goals as goal

pub returns : goal.returns
returns c = without_cause_spelled
