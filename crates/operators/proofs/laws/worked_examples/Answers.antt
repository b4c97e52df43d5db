use Rattle.operators.proofs.Shown.{shown}
use Rattle.operators.proofs.laws.worked_examples.Goals as goal

pub returns : goal.returns
returns c = shown
