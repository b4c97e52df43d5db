use Rattle.std.proofs.Common.{length}
use Rattle.source_tests.proofs.packed.drain.Given as goal

abbrev pub decreases-loop-event : goal.decreases-loop-event
decreases-loop-event g l = length (g.S.EventSource.events l.source)
