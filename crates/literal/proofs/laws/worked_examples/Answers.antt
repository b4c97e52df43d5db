use Rattle.literal.proofs.Worked.{examples}
use Rattle.literal.proofs.laws.worked_examples.Goals as goal

pub returns : goal.returns
returns c = examples
