use Rattle.literal.proofs.Standing.{readings}
use Rattle.literal.proofs.laws.escapes_have_one_reading.Goals as goal

pub returns : goal.returns
returns c = readings
