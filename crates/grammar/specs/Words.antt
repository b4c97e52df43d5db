-- Words of the grammar, and its operators.
use Rattle.std.specs.Prelude.{T, List, is_some}
use Rattle.kinds.specs.declared.kind.SyntaxKind.{SyntaxKind}
use Rattle.operators.specs.Levels.{level_of}
use Rattle.syntax.specs.declared.event.Event.{Event}

-- events, trivia and Error events aside
abbrev pub Word : Type 0
Word = List Event

-- a kind that has a level
pub record Operator : Type 0 where
  pub kind : SyntaxKind
  pub is : T (is_some (level_of kind))
