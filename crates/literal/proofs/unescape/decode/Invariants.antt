use Rattle.literal.proofs.Escaping.{Progress}
use Rattle.literal.proofs.unescape.decode.Given as goal

abbrev pub invariant-loop-i : goal.invariant-loop-i
invariant-loop-i l = Progress l.text l.initial.items l.from l.state l.n l.items l.i
