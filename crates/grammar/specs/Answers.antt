-- The answer of a condition: over the source, the events to come and their close, and the lengths of the memory lent.
use Rattle.std.specs.Prelude.{◌≡◌, ℕ, Bool, true, false, cond, ◌&&◌, List, [], ◌∷◌, ◌++◌, length, drop, Some, None, nat_le, nat_lt}
use Rattle.syntax.specs.Events.{blank}
use Rattle.syntax.specs.Spans.{span_of}
use Rattle.syntax.specs.declared.event.Event.{Event}
use Rattle.source.specs.Meaning.{Close}
use Rattle.source.specs.declared.close.Fault.{Fault}
use Rattle.refusal.specs.Refusals.{facts_of}
use Rattle.refusal.specs.declared.refusal.Refusal.{Refusal}
use Rattle.refusal.specs.declared.refusal.Refusal.TheVariants.{OutOfPlace, TooLong, Full, SourceFault}
use Rattle.tree.specs.Labels.{blank_slot}
use Rattle.tree.specs.Layout.{layout}
use Rattle.lent.specs.Lists.{fit}
use Rattle.tree.specs.Trees.{Tree, size, text_of}
use Rattle.tree.specs.declared.slot.Slot.{Slot}
use Rattle.grammar.specs.declared.entry.Entry.{Entry}
use Rattle.grammar.specs.Words.{Word}
use Rattle.grammar.specs.Built.{tree-BE}
use Rattle.grammar.specs.Conditions.{Spelled}
use Rattle.grammar.specs.Causes.{Cause, FirstCause}
use Rattle.grammar.specs.Extents.{starts, extent_of, ending_of, is_closed, fault_at, gathered, visible, entries_in, entries_before, entries_behind, next_span}

-- how long the memory is that a call is lent
pub record Lent : Type 0 where
  pub slots : ℕ
  pub text : ℕ
  pub row : ℕ
  pub errors : ℕ

-- a tree, or why there is none
pub data Outcome : Type 0 where
  accepted : Tree → Outcome
  refused : Refusal → Outcome

abbrev pub NoCause : List ℕ → Word → Type 0
NoCause source v = (i : ℕ) (r : Refusal) → Cause source v i r → ⊥

abbrev pub fits : Lent → Tree → Bool
fits n t = nat_le (size t) n.slots && nat_le (length (text_of t)) n.text

-- a refusal from 5 to 9 has an entry of its own, behind those of the Error events before the event that it arose at
abbrev pub has_entry : Refusal → Bool
has_entry r = nat_le 5 (facts_of r).number && nat_le (facts_of r).number 9

abbrev pub own_entry : Refusal → Entry
own_entry r = record { number = (facts_of r).number; message = 0; span = (facts_of r).place }

abbrev pub entries_with : Refusal → ℕ → List Event → List Entry
entries_with r i row =
    cond (has_entry r) (entries_before i row ++ (own_entry r ∷ entries_behind i row)) (entries_in row)

-- What a gathered row comes to: the first cause; with none, an extent that is over before its nodes are closed; then slots or
-- text that are too short for the tree; else the tree.
pub data Judged (source : List ℕ) (row : List Event) (whole : Bool) (n : Lent) : Outcome → List Entry → Type 0 where
  caused : {r : Refusal} (c : FirstCause source (visible row) r) → Judged source row whole n (refused r) (entries_with r c.at row)
  over : NoCause source (visible row) → whole ≡ false → Judged source row whole n (refused (OutOfPlace (span_of 0 0))) (entries_in row)
  full : NoCause source (visible row) → whole ≡ true → (s : Spelled (visible row)) → fits n (tree-BE source s.value) ≡ false → Judged source row whole n (refused (Full (size (tree-BE source s.value)) (length (text_of (tree-BE source s.value))))) (entries_in row)
  read : NoCause source (visible row) → whole ≡ true → (s : Spelled (visible row)) → fits n (tree-BE source s.value) ≡ true → Judged source row whole n (accepted (tree-BE source s.value)) (entries_in row)

-- What a condition comes to, and the full list of its errors. The tests are made in this order: something else than a condition
-- is next; its extent ends in a fault; the row is too short; then what the row comes to.
pub data Comes (source : List ℕ) (es : List Event) (c : Close) (n : Lent) : Outcome → List Entry → Type 0 where
  none_begins : starts es ≡ false → Comes source es c n (refused (OutOfPlace (next_span es))) []
  in_fault : {f : Fault} → starts es ≡ true → fault_at (ending_of es) c ≡ Some f → Comes source es c n (refused (SourceFault f)) (entries_in (extent_of es))
  too_long : starts es ≡ true → fault_at (ending_of es) c ≡ None → nat_lt n.row (length (gathered (extent_of es))) ≡ true → Comes source es c n (refused TooLong) (entries_in (extent_of es))
  judged : {o : Outcome} {list : List Entry} → starts es ≡ true → fault_at (ending_of es) c ≡ None → nat_lt n.row (length (gathered (extent_of es))) ≡ false → Judged source (gathered (extent_of es)) (is_closed (ending_of es)) n o list → Comes source es c n o list

-- the events that are taken: none where no condition begins
abbrev pub taken : List Event → List Event
taken es = cond (starts es) (extent_of es) []

abbrev pub slots_of : Outcome → List Slot
slots_of (accepted t) = layout t
slots_of (refused r) = []

abbrev pub text_in : Outcome → List ℕ
text_in (accepted t) = text_of t
text_in (refused r) = []

abbrev pub no_entry : Entry
no_entry = record { number = 0; message = 0; span = span_of 0 0 }

-- all that a condition leaves
pub record Answer (source : List ℕ) (es : List Event) (c : Close) (n : Lent) (o : Outcome) (slots : List Slot) (text : List ℕ) (row : List Event) (errors : List Entry) (count : ℕ) (rest : List Event) : Type 0 where
  pub list : List Entry
  pub comes : Comes source es c n o list
  pub slots_are : slots ≡ fit blank_slot n.slots (slots_of o)
  pub text_is : text ≡ fit 0 n.text (text_in o)
  pub row_is : row ≡ fit blank n.row (gathered (taken es))
  pub errors_are : errors ≡ fit no_entry n.errors list
  pub count_is : count ≡ length list
  pub rest_is : rest ≡ drop (length (taken es)) es

-- a condition has at most one answer
abbrev pub OneAnswer : Type 0
OneAnswer =
    (source : List ℕ) (es : List Event) (c : Close) (n : Lent) (o p : Outcome) (xs ys : List Slot) (t u : List ℕ) (row row' : List Event) (errs errs' : List Entry) (k l : ℕ) (rest rest' : List Event) →
    Answer source es c n o xs t row errs k rest → Answer source es c n p ys u row' errs' l rest' →
    (o ≡ p) × (xs ≡ ys) × (t ≡ u) × (row ≡ row') × (errs ≡ errs') × (k ≡ l) × (rest ≡ rest')
