-- The events of a condition in a list of events, and what becomes of them.
use Rattle.std.specs.Prelude.{ℕ, zero, suc, Bool, true, false, cond, List, [], ◌∷◌, None, Option}
use Rattle.kinds.specs.Kinds.{same}
use Rattle.kinds.specs.declared.kind.SyntaxKind.TheVariants.{BOOLEAN_EXPR}
use Rattle.syntax.specs.Events.{is_trivia, is_boundary, span_at}
use Rattle.syntax.specs.Spans.{span_of}
use Rattle.syntax.specs.declared.event.Event.{Event}
use Rattle.syntax.specs.declared.event.Event.TheVariants.{Error, Begin, End, Token}
use Rattle.syntax.specs.declared.span.Span.{Span}
use Rattle.source.specs.declared.close.Fault.{Fault}
use Rattle.source.specs.Meaning.{Close}
use Rattle.grammar.specs.declared.entry.Entry.{Entry}
use Rattle.grammar.specs.Words.{Word}

-- whether a condition begins with the first event
abbrev pub starts : List Event → Bool
starts [] = false
starts (Error m s ∷ es) = false
starts (Begin k s ∷ es) = same k BOOLEAN_EXPR
starts (End k s ∷ es) = false
starts (Token k s ∷ es) = false

-- how many nodes are open behind an event, where n + 1 were open before it
abbrev pub open_behind : Event → ℕ → ℕ
open_behind (Error m s) n = suc n
open_behind (Begin k s) n = suc (suc n)
open_behind (End k s) n = n
open_behind (Token k s) n = suc n

-- the events up to where no node is open any more, or earlier up to a boundary or the close
abbrev pub up_to_closed : ℕ → List Event → List Event
up_to_closed zero es = []
up_to_closed (suc n) [] = []
up_to_closed (suc n) (e ∷ es) = cond (is_boundary e) [] (e ∷ up_to_closed (open_behind e n) es)

-- the extent of a condition that begins with the first event
abbrev pub extent_of : List Event → List Event
extent_of [] = []
extent_of (e ∷ es) = e ∷ up_to_closed 1 es

-- how an extent ends: all its nodes are closed, or a boundary or the close stands before that
pub data Ending : Type 0 where
  closed : Ending
  boundary : Ending
  close : Ending

abbrev pub ending_from : ℕ → List Event → Ending
ending_from zero es = closed
ending_from (suc n) [] = close
ending_from (suc n) (e ∷ es) = cond (is_boundary e) boundary (ending_from (open_behind e n) es)

abbrev pub ending_of : List Event → Ending
ending_of [] = close
ending_of (e ∷ es) = ending_from 1 es

abbrev pub is_closed : Ending → Bool
is_closed closed = true
is_closed boundary = false
is_closed close = false

-- the fault that an extent ends in, if it does
abbrev pub fault_at : Ending → Close → Option Fault
fault_at closed c = None
fault_at boundary c = None
fault_at close c = c

-- the extent without trivia: what the event row keeps
abbrev pub gathered : List Event → List Event
gathered [] = []
gathered (e ∷ es) = cond (is_trivia e) (gathered es) (e ∷ gathered es)

-- and without Error events: what the grammar sees
abbrev pub visible : List Event → Word
visible [] = []
visible (Error m s ∷ es) = visible es
visible (Begin k s ∷ es) = Begin k s ∷ visible es
visible (End k s ∷ es) = End k s ∷ visible es
visible (Token k s ∷ es) = Token k s ∷ visible es

-- the Error events as entries of an error list
abbrev pub entries_in : List Event → List Entry
entries_in [] = []
entries_in (Error m s ∷ es) = record { number = 0; message = m; span = s } ∷ entries_in es
entries_in (Begin k s ∷ es) = entries_in es
entries_in (End k s ∷ es) = entries_in es
entries_in (Token k s ∷ es) = entries_in es

-- the Error events in front of the visible event with a number, and those behind it
abbrev pub entries_before : ℕ → List Event → List Entry
entries_before i [] = []
entries_before i (Error m s ∷ es) = record { number = 0; message = m; span = s } ∷ entries_before i es
entries_before zero (Begin k s ∷ es) = []
entries_before zero (End k s ∷ es) = []
entries_before zero (Token k s ∷ es) = []
entries_before (suc i) (Begin k s ∷ es) = entries_before i es
entries_before (suc i) (End k s ∷ es) = entries_before i es
entries_before (suc i) (Token k s ∷ es) = entries_before i es

abbrev pub entries_behind : ℕ → List Event → List Entry
entries_behind i [] = []
entries_behind i (Error m s ∷ es) = entries_behind i es
entries_behind zero (Begin k s ∷ es) = entries_in es
entries_behind zero (End k s ∷ es) = entries_in es
entries_behind zero (Token k s ∷ es) = entries_in es
entries_behind (suc i) (Begin k s ∷ es) = entries_behind i es
entries_behind (suc i) (End k s ∷ es) = entries_behind i es
entries_behind (suc i) (Token k s ∷ es) = entries_behind i es

-- where the next event stands, or 0 and 0
abbrev pub next_span : List Event → Span
next_span [] = span_of 0 0
next_span (e ∷ es) = span_at e
