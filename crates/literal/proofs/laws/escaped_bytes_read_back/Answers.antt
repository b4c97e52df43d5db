use Rattle.literal.proofs.Hexed.{escaped}
use Rattle.literal.proofs.laws.escaped_bytes_read_back.Goals as goal

pub returns : goal.returns
returns c = escaped
