use Rattle.std.proofs.Common.{◌≡◌, length, take}
use Rattle.grammar.specs.Extents.{entries_in}
use Rattle.reader.proofs.reader.count_errors.Given as goal

abbrev pub invariant-loop-event : goal.invariant-loop-event
invariant-loop-event l = l.count ≡ length (entries_in (take l.event-index l.events))
