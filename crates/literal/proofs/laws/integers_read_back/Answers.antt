use Rattle.literal.proofs.Numbers.{integers}
use Rattle.literal.proofs.laws.integers_read_back.Goals as goal

pub returns : goal.returns
returns c = integers
