use Rattle.grammar.proofs.Nested.{nests-BE}
use Rattle.grammar.proofs.conditions_nest.Goals as goal

pub returns : goal.returns
returns c = nests-BE
