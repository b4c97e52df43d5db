use Rattle.std.proofs.Common.{◌≡◌, ◌-◌, length}
use Rattle.tree.specs.Reads.{count_from}
use Rattle.tree.proofs.Counts.{plus}
use Rattle.tree.proofs.read.siblings.Given as goal

abbrev pub invariant-loop-count : goal.invariant-loop-count
invariant-loop-count l =
    count_from l.slots (length l.slots) l.fn.link ≡ plus l.count (count_from l.slots (length l.slots - l.count) l.link)
