-- The events of a condition in a list of events, said without a count of open nodes.
use Rattle.std.specs.Prelude.{◌≡◌, ℕ, true, List, [], ◌∷◌, ◌++◌}
use Rattle.kinds.specs.declared.kind.SyntaxKind.TheVariants.{COMMENT, WHITESPACE, NEWLINE}
use Rattle.syntax.specs.declared.event.Event.{Event}
use Rattle.syntax.specs.declared.event.Event.TheVariants.{Error, Token}
use Rattle.syntax.specs.declared.span.Span.{Span}
use Rattle.grammar.specs.Words.{Word}
use Rattle.grammar.specs.Grammar.{BE, spell-BE}
use Rattle.grammar.specs.Extents.{starts, extent_of, closed, ending_of, gathered, visible}

-- events that are in no word: trivia tokens and Error events
pub data Other : Event → Type 0 where
  whitespace : {s : Span} → Other (Token WHITESPACE s)
  newline : {s : Span} → Other (Token NEWLINE s)
  comment : {s : Span} → Other (Token COMMENT s)
  error : {m : ℕ} {s : Span} → Other (Error m s)

-- all events of a word in their order, others only where an own one is still to come
pub data Among : Word → List Event → Type 0 where
  nothing : Among [] []
  own : {e : Event} {v : Word} {es : List Event} → Among v es → Among (e ∷ v) (e ∷ es)
  other : {d e : Event} {v : Word} {es : List Event} → Other d → Among (e ∷ v) es → Among (e ∷ v) (d ∷ es)

-- and none before the first: the word's events with others in between
pub data EventsOf : Word → List Event → Type 0 where
  from_first : {e : Event} {v : Word} {es : List Event} → Among v es → EventsOf (e ∷ v) (e ∷ es)

-- a condition begins with some events, whatever follows them; they are its extent, all its nodes are closed, and its word is v
pub record IsExtent (v : Word) (es rest : List Event) : Type 0 where
  pub begins : starts (es ++ rest) ≡ true
  pub extent : extent_of (es ++ rest) ≡ es
  pub closes : ending_of (es ++ rest) ≡ closed
  pub word : visible (gathered es) ≡ v

-- the events of a condition are its own extent
abbrev pub OwnExtent : Type 0
OwnExtent = (x : BE) (es rest : List Event) → EventsOf (spell-BE x []) es → IsExtent (spell-BE x []) es rest
