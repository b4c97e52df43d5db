-- Worked examples: whole answers, with all the memory lent written out.
use Rattle.std.specs.Prelude.{ℕ, ◌+◌, List, [], ◌∷◌, pos, Some, None, codes}
use Rattle.kinds.specs.declared.kind.SyntaxKind.TheVariants.{BOOLEAN_EXPR, BOOLEAN_TERM, EXPR, TERM, PRIMARY_EXPR, RULE_DECL, ERROR, TRUE_KW, OR_KW, CONTAINS_KW, SUB, IDENT, PATTERN_IDENT, INTEGER_LIT, STRING_LIT, WHITESPACE, L_PAREN, R_PAREN, R_BRACE}
use Rattle.syntax.specs.Spans.{span_of}
use Rattle.syntax.specs.declared.event.Event.{Event}
use Rattle.syntax.specs.declared.event.Event.TheVariants.{Error, Begin, End, Token}
use Rattle.syntax.specs.declared.span.Span.{Span}
use Rattle.source.specs.Meaning.{Close}
use Rattle.source.specs.declared.close.Fault.TheVariants.{Cut}
use Rattle.refusal.specs.declared.refusal.Refusal.TheVariants.{Damaged, OutOfPlace, InvalidInteger, TooLong, Full, SourceFault}
use Rattle.tree.specs.Labels.{Label, plain, no_flags, zero_float}
use Rattle.tree.specs.Labels.Name.{decoded}
use Rattle.tree.specs.Trees.{Tree}
use Rattle.tree.specs.Trees.Tree.{node}
use Rattle.tree.specs.Trees.Trees.{none, more}
use Rattle.tree.specs.declared.node.NodeKind.{NodeKind}
use Rattle.tree.specs.declared.node.NodeKind.TheVariants.{Blank, True, LiteralString, Ident, PatternMatch, Or, Sub, Contains}
use Rattle.tree.specs.declared.slot.Slot.{Slot}
use Rattle.grammar.specs.declared.entry.Entry.{Entry}
use Rattle.grammar.specs.Nodes.{name_leaf}
use Rattle.grammar.specs.Answers.{Lent, Outcome, accepted, refused, Answer}

-- what the memory lent holds, and what is left of the events
pub record Left : Type 0 where
  pub slots : List Slot
  pub text : List ℕ
  pub row : List Event
  pub errors : List Entry
  pub count : ℕ
  pub rest : List Event

abbrev pub Leaves : List ℕ → List Event → Close → Lent → Outcome → Left → Type 0
Leaves source es c n o l = Answer source es c n o l.slots l.text l.row l.errors l.count l.rest

-- so many slots and places in the row, three bytes of text and two errors
abbrev pub lent : ℕ → ℕ → Lent
lent slots row = record { slots = slots; text = 3; row = row; errors = 2 }

-- `true` with white space and an Error event inside the condition, and then a brace
abbrev pub true_source : List ℕ
true_source = codes "true }"

abbrev pub begins : Event
begins = Begin BOOLEAN_EXPR (span_of 0 5)

abbrev pub term_begins : Event
term_begins = Begin BOOLEAN_TERM (span_of 0 5)

abbrev pub keyword : Event
keyword = Token TRUE_KW (span_of 0 4)

abbrev pub white : Event
white = Token WHITESPACE (span_of 4 5)

abbrev pub report : Event
report = Error 7 (span_of 5 5)

abbrev pub term_ends : Event
term_ends = End BOOLEAN_TERM (span_of 0 5)

abbrev pub ends : Event
ends = End BOOLEAN_EXPR (span_of 0 5)

abbrev pub brace : Event
brace = Token R_BRACE (span_of 5 6)

-- the next rule
abbrev pub rule : Event
rule = Begin RULE_DECL (span_of 5 6)

abbrev pub true_events : List Event
true_events = begins ∷ term_begins ∷ keyword ∷ white ∷ report ∷ term_ends ∷ ends ∷ brace ∷ []

-- `0_o17`, which is no integer, with an Error event before it and one behind
abbrev pub octal_source : List ℕ
octal_source = codes "0_o17"

abbrev pub second : Event
second = Error 9 (span_of 5 5)

abbrev pub octal_events : List Event
octal_events = begins ∷ term_begins ∷ Begin EXPR (span_of 0 5) ∷ report ∷ Begin TERM (span_of 0 5) ∷ Token INTEGER_LIT (span_of 0 5) ∷ second ∷ End TERM (span_of 0 5) ∷ End EXPR (span_of 0 5) ∷ term_ends ∷ ends ∷ []

-- a condition that the syntax parser could not read
abbrev pub damaged_events : List Event
damaged_events = begins ∷ report ∷ Begin ERROR (span_of 0 4) ∷ keyword ∷ End ERROR (span_of 0 4) ∷ ends ∷ []

-- `a - (b - c) or "x\n" contains $p`, with white space and without
abbrev pub long_source : List ℕ
long_source = codes "a - (b - c) or \"x\\n\" contains $p"

abbrev pub space : ℕ → Event
space from = Token WHITESPACE (span_of from (from + 1))

abbrev pub variable : ℕ → List Event → List Event
variable from es = Begin TERM (span_of from (from + 1)) ∷ Begin PRIMARY_EXPR (span_of from (from + 1)) ∷ Token IDENT (span_of from (from + 1)) ∷ End PRIMARY_EXPR (span_of from (from + 1)) ∷ End TERM (span_of from (from + 1)) ∷ es

abbrev pub string_term : List Event → List Event
string_term es = Begin BOOLEAN_TERM (span_of 15 20) ∷ Begin EXPR (span_of 15 20) ∷ Begin TERM (span_of 15 20) ∷ Token STRING_LIT (span_of 15 20) ∷ End TERM (span_of 15 20) ∷ End EXPR (span_of 15 20) ∷ End BOOLEAN_TERM (span_of 15 20) ∷ es

abbrev pub pattern_term : List Event → List Event
pattern_term es = Begin BOOLEAN_TERM (span_of 30 32) ∷ Token PATTERN_IDENT (span_of 30 32) ∷ End BOOLEAN_TERM (span_of 30 32) ∷ es

abbrev pub long_events : List Event
long_events =
    Begin BOOLEAN_EXPR (span_of 0 32) ∷ Begin BOOLEAN_TERM (span_of 0 11) ∷ Begin EXPR (span_of 0 11) ∷ variable 0 (space 1 ∷ Token SUB (span_of 2 3) ∷ space 3 ∷ Begin TERM (span_of 4 11) ∷ Token L_PAREN (span_of 4 5) ∷ Begin EXPR (span_of 5 10) ∷
    variable 5 (space 6 ∷ Token SUB (span_of 7 8) ∷ space 8 ∷ variable 9 (End EXPR (span_of 5 10) ∷ Token R_PAREN (span_of 10 11) ∷ End TERM (span_of 4 11) ∷ End EXPR (span_of 0 11) ∷ End BOOLEAN_TERM (span_of 0 11) ∷ space 11 ∷
    Token OR_KW (span_of 12 14) ∷ space 14 ∷ string_term (space 20 ∷ Token CONTAINS_KW (span_of 21 29) ∷ space 29 ∷ pattern_term (End BOOLEAN_EXPR (span_of 0 32) ∷ [])))))

abbrev pub long_row : List Event
long_row =
    Begin BOOLEAN_EXPR (span_of 0 32) ∷ Begin BOOLEAN_TERM (span_of 0 11) ∷ Begin EXPR (span_of 0 11) ∷ variable 0 (Token SUB (span_of 2 3) ∷ Begin TERM (span_of 4 11) ∷ Token L_PAREN (span_of 4 5) ∷ Begin EXPR (span_of 5 10) ∷
    variable 5 (Token SUB (span_of 7 8) ∷ variable 9 (End EXPR (span_of 5 10) ∷ Token R_PAREN (span_of 10 11) ∷ End TERM (span_of 4 11) ∷ End EXPR (span_of 0 11) ∷ End BOOLEAN_TERM (span_of 0 11) ∷
    Token OR_KW (span_of 12 14) ∷ string_term (Token CONTAINS_KW (span_of 21 29) ∷ pattern_term (End BOOLEAN_EXPR (span_of 0 32) ∷ [])))))

-- a slot with no number: its kind, span, first child, next sibling, name and flags
abbrev pub slot : NodeKind → Span → ℕ → ℕ → Span → ℕ → Slot
slot k s first next name flags =
    record { span = s; name = name; first = first; next = next; value = pos 0; float = zero_float; kind = k; flags = flags }

abbrev pub no_name : Span
no_name = span_of 0 0

-- a slot that is not used
abbrev pub free : Slot
free = slot Blank (span_of 0 0) 0 0 no_name 0

-- an unused place of the row
abbrev pub gap : Event
gap = Error 0 (span_of 0 0)

abbrev pub entry : ℕ → ℕ → Span → Entry
entry number message s = record { number = number; message = message; span = s }

-- an unused entry, and that of the first Error event
abbrev pub zeros : Entry
zeros = entry 0 0 (span_of 0 0)

abbrev pub reported : Entry
reported = entry 0 7 (span_of 5 5)

-- the tree of the long condition
abbrev pub string_node : Label
string_node =
    record { kind = LiteralString; span = span_of 15 20; name = decoded (120 ∷ 10 ∷ []); value = pos 0; flags = no_flags; float = zero_float }

abbrev pub long_tree : Tree
long_tree =
    node (plain Or (span_of 0 32)) (more (node (plain Sub (span_of 0 10)) (more (name_leaf Ident (span_of 0 1)) (more (node (plain Sub (span_of 5 10)) (more (name_leaf Ident (span_of 5 6)) (more (name_leaf Ident (span_of 9 10)) none))) none))) (more (node (plain Contains (span_of 15 32)) (more (node string_node none) (more (name_leaf PatternMatch (span_of 30 32)) none))) none))

-- its slots as in the table of docs/slots.md; a row that is just long enough
abbrev pub long_left : Left
long_left =
    record {
      slots =
          slot Ident (span_of 0 1) 0 4 (span_of 0 1) 0 ∷
          slot Ident (span_of 5 6) 0 3 (span_of 5 6) 0 ∷
          slot Ident (span_of 9 10) 0 0 (span_of 9 10) 0 ∷
          slot Sub (span_of 5 10) 2 0 no_name 0 ∷
          slot Sub (span_of 0 10) 1 8 no_name 0 ∷
          slot LiteralString (span_of 15 20) 0 7 (span_of 0 2) 32 ∷
          slot PatternMatch (span_of 30 32) 0 0 (span_of 30 32) 0 ∷
          slot Contains (span_of 15 32) 6 0 no_name 0 ∷
          slot Or (span_of 0 32) 5 0 no_name 0 ∷
          free ∷ [];
      text = 120 ∷ 10 ∷ 0 ∷ [];
      row = long_row;
      errors = zeros ∷ zeros ∷ [];
      count = 0;
      rest = [];
    }

-- the row keeps the Error event and leaves white space out
abbrev pub true_left : Left
true_left =
    record {
      slots = slot True (span_of 0 4) 0 0 no_name 0 ∷ free ∷ [];
      text = 0 ∷ 0 ∷ 0 ∷ [];
      row = begins ∷ term_begins ∷ keyword ∷ report ∷ term_ends ∷ ends ∷ gap ∷ gap ∷ [];
      errors = reported ∷ zeros ∷ [];
      count = 1;
      rest = brace ∷ [];
    }

-- the same with no slot lent
abbrev pub full_left : Left
full_left =
    record {
      slots = [];
      text = 0 ∷ 0 ∷ 0 ∷ [];
      row = begins ∷ term_begins ∷ keyword ∷ report ∷ term_ends ∷ ends ∷ gap ∷ gap ∷ [];
      errors = reported ∷ zeros ∷ [];
      count = 1;
      rest = brace ∷ [];
    }

-- nothing is taken where no condition begins
abbrev pub brace_left : Left
brace_left =
    record {
      slots = free ∷ free ∷ [];
      text = 0 ∷ 0 ∷ 0 ∷ [];
      row = gap ∷ gap ∷ gap ∷ [];
      errors = zeros ∷ zeros ∷ [];
      count = 0;
      rest = brace ∷ [];
    }

-- a row that is too short is filled, and the errors behind it count
abbrev pub short_left : Left
short_left =
    record {
      slots = free ∷ free ∷ [];
      text = 0 ∷ 0 ∷ 0 ∷ [];
      row = begins ∷ term_begins ∷ keyword ∷ [];
      errors = reported ∷ zeros ∷ [];
      count = 1;
      rest = brace ∷ [];
    }

-- all events before the fault are taken
abbrev pub cut_left : Left
cut_left =
    record {
      slots = free ∷ free ∷ [];
      text = 0 ∷ 0 ∷ 0 ∷ [];
      row = begins ∷ term_begins ∷ report ∷ gap ∷ [];
      errors = reported ∷ zeros ∷ [];
      count = 1;
      rest = [];
    }

-- and those before a boundary, where a fault behind it does not count
abbrev pub open_left : Left
open_left =
    record {
      slots = free ∷ free ∷ [];
      text = 0 ∷ 0 ∷ 0 ∷ [];
      row = begins ∷ term_begins ∷ report ∷ gap ∷ [];
      errors = reported ∷ zeros ∷ [];
      count = 1;
      rest = rule ∷ [];
    }

-- a refusal from 1 to 4 has no entry
abbrev pub damaged_left : Left
damaged_left =
    record {
      slots = free ∷ free ∷ [];
      text = 0 ∷ 0 ∷ 0 ∷ [];
      row = begins ∷ report ∷ Begin ERROR (span_of 0 4) ∷ keyword ∷ End ERROR (span_of 0 4) ∷ ends ∷ gap ∷ gap ∷ [];
      errors = reported ∷ zeros ∷ [];
      count = 1;
      rest = [];
    }

-- a refusal from 5 to 9 has one, between those of the Error events; of three errors two are kept
abbrev pub octal_left : Left
octal_left =
    record {
      slots = free ∷ [];
      text = 0 ∷ 0 ∷ 0 ∷ [];
      row = octal_events;
      errors = reported ∷ entry 6 0 (span_of 0 5) ∷ [];
      count = 3;
      rest = [];
    }

pub record WorkedAnswers : Type 0 where
  pub long : Leaves long_source long_events None (lent 10 41) (accepted long_tree) long_left
  pub accepted_true : Leaves true_source true_events None (lent 2 8) (accepted (node (plain True (span_of 0 4)) none)) true_left
  pub full : Leaves true_source true_events None (lent 0 8) (refused (Full 1 0)) full_left
  pub none_begins : Leaves true_source (brace ∷ []) None (lent 2 3) (refused (OutOfPlace (span_of 5 6))) brace_left
  pub too_long : Leaves true_source true_events None (lent 2 3) (refused TooLong) short_left
  pub in_fault : Leaves true_source (begins ∷ term_begins ∷ white ∷ report ∷ []) (Some Cut) (lent 2 4) (refused (SourceFault Cut)) cut_left
  pub over : Leaves true_source (begins ∷ term_begins ∷ white ∷ report ∷ rule ∷ []) (Some Cut) (lent 2 4) (refused (OutOfPlace (span_of 0 0))) open_left
  pub damaged : Leaves true_source damaged_events None (lent 2 8) (refused (Damaged (span_of 0 4))) damaged_left
  pub own_entry : Leaves octal_source octal_events None (lent 1 11) (refused (InvalidInteger (span_of 0 5))) octal_left
