use Rattle.std.proofs.Common.{◌≡◌, ℕ, ◌+◌, ◌-◌, ◌*◌, ◌≤◌, List, ◌++◌}
use Rattle.std.specs.Fmt.{HasWritten, IsPlainFormatter}
use Rattle.outline.specs.Shown.{trees_text}
use Rattle.outline.proofs.print.Shown.+trees.Given as goal

abbrev pub decreases-tree : goal.decreases-tree
decreases-tree g l = 2 * (l.below.end - l.below.start) + 1

abbrev pub decreases-row : goal.decreases-row
decreases-row g l = 2 * (l.within.end - l.within.start)

abbrev pub invariant-row-loop-number : goal.invariant-row-loop-number
invariant-row-loop-number g l = record {
  above : l.initial.within.start ≤ l.within.start;
  same_end : l.within.end ≡ l.initial.within.end;
  written :
      IsPlainFormatter l.initial.f
      → (done : List ℕ)
      × HasWritten g.W.Write.write_str_gives l.initial.f done l.f
      × (done
      ++ trees_text l.self (l.within.end - l.within.start) l.depth l.within.start l.within.end l.link
      ≡ trees_text l.self (l.initial.within.end - l.initial.within.start) l.depth l.initial.within.start
      l.initial.within.end
      l.initial.link);
}

abbrev pub decreases-row-loop-number : goal.decreases-row-loop-number
decreases-row-loop-number g l = l.within.end - l.within.start
