use Rattle.literal.proofs.Parted.{regexps}
use Rattle.literal.proofs.laws.regexps_read_back.Goals as goal

pub returns : goal.returns
returns c = regexps
