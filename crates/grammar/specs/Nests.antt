-- Words whose Begins and Ends nest.
use Rattle.std.specs.Prelude.{◌∷◌}
use Rattle.kinds.specs.declared.kind.SyntaxKind.{SyntaxKind}
use Rattle.syntax.specs.declared.event.Event.TheVariants.{Begin, End, Token}
use Rattle.syntax.specs.declared.span.Span.{Span}
use Rattle.grammar.specs.Words.{Word}

-- what stands between two rests of a word nests, kind by kind: tokens, and nodes that end with the kind they begin with
pub data Nests : Word → Word → Type 0 where
  done : {v : Word} → Nests v v
  one : {k : SyntaxKind} {s : Span} {v w : Word} → Nests v w → Nests (Token k s ∷ v) w
  node : {k : SyntaxKind} {s t : Span} {u v w : Word} → Nests u (End k t ∷ v) → Nests v w → Nests (Begin k s ∷ u) w
