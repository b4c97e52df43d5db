use Rattle.literal.proofs.Numbers.{negatives}
use Rattle.literal.proofs.laws.negatives_fold.Goals as goal

pub returns : goal.returns
returns c = negatives
