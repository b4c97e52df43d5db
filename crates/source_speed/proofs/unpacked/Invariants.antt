use Rattle.std.proofs.Common.{length}
use Rattle.source.specs.Reading.{events_in}
use Rattle.source_speed.proofs.unpacked.Given as goal

abbrev pub decreases-loop-event : goal.decreases-loop-event
decreases-loop-event l = length (events_in l.packed.bytes.now 0)
