-- Which events are trivia, which are boundaries, and the blank.
use Rattle.std.specs.Prelude.{Bool, false, ◌||◌}
use Rattle.syntax.specs.declared.event.Event.{Event}
use Rattle.syntax.specs.declared.event.Event.TheVariants.{Error, Begin, End, Token}
use Rattle.kinds.specs.declared.kind.SyntaxKind.TheVariants.{COMMENT, WHITESPACE, NEWLINE, IMPORT_STMT, INCLUDE_STMT, RULE_DECL, SOURCE_FILE}
use Rattle.syntax.specs.declared.span.Span.{Span}
use Rattle.kinds.specs.Kinds.{same}
use Rattle.syntax.specs.Spans.{span_of}

-- what unused memory holds: message 0 at 0 and 0
abbrev pub blank : Event
blank = Error 0 (span_of 0 0)

abbrev pub span_at : Event → Span
span_at (Error m s) = s
span_at (Begin k s) = s
span_at (End k s) = s
span_at (Token k s) = s

-- tokens that a condition's meaning does not depend on
abbrev pub is_trivia : Event → Bool
is_trivia (Error m s) = false
is_trivia (Begin k s) = false
is_trivia (End k s) = false
is_trivia (Token k s) = same k WHITESPACE || (same k NEWLINE || same k COMMENT)

-- events that no condition reaches over
abbrev pub is_boundary : Event → Bool
is_boundary (Error m s) = false
is_boundary (Begin k s) = same k RULE_DECL || (same k IMPORT_STMT || same k INCLUDE_STMT)
is_boundary (End k s) = same k SOURCE_FILE
is_boundary (Token k s) = false
