use Rattle.grammar.proofs.OneCause.{first_same}
use Rattle.grammar.proofs.a_first_cause_is_unique.Goals as goal

pub returns : goal.returns
returns c = first_same
