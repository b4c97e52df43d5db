use Rattle.grammar.proofs.Accepting.{accepted_exactly}
use Rattle.grammar.proofs.accepted_exactly_when_spelled_and_within_limits.Goals as goal

pub returns : goal.returns
returns c = accepted_exactly
