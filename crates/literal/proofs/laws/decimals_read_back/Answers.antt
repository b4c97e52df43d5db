use Rattle.literal.proofs.Hexed.{decimals}
use Rattle.literal.proofs.laws.decimals_read_back.Goals as goal

pub returns : goal.returns
returns c = decimals
