use Rattle.std.specs.Fmt.{HasWritten, IsPlainFormatter}
use Rattle.outline.specs.Shown.{spaces}
use Rattle.outline.proofs.print.IndentDisplay.fmt.Given as goal

abbrev pub invariant-loop-i : goal.invariant-loop-i
invariant-loop-i g l =
    IsPlainFormatter l.initial.f → HasWritten g.W.Write.write_str_gives l.initial.f (spaces l._i) l.f
