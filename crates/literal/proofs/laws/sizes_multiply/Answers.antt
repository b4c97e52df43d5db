use Rattle.literal.proofs.Parted.{sizes}
use Rattle.literal.proofs.laws.sizes_multiply.Goals as goal

pub returns : goal.returns
returns c = sizes
