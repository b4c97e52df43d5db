-- When a condition is accepted, and what the slots then hold.
use Rattle.std.specs.Prelude.{◌≡◌, ℕ, ◌-◌, ◌≤◌, true, false, List, length, ◌≢◌, nat_lt}
use Rattle.syntax.specs.declared.event.Event.{Event}
use Rattle.source.specs.Meaning.{Close}
use Rattle.refusal.specs.Refusals.{facts_of}
use Rattle.refusal.specs.declared.refusal.Refusal.{Refusal}
use Rattle.tree.specs.Holds.{Holds, reached, up_from}
use Rattle.tree.specs.Trees.{Tree, size}
use Rattle.tree.specs.declared.slot.Slot.{Slot}
use Rattle.grammar.specs.declared.entry.Entry.{Entry}
use Rattle.grammar.specs.Words.{Word}
use Rattle.grammar.specs.Built.{tree-BE}
use Rattle.grammar.specs.Conditions.{Spelled}
use Rattle.grammar.specs.Causes.{Cause}
use Rattle.grammar.specs.Extents.{starts, extent_of, ending_of, is_closed, gathered, visible}
use Rattle.grammar.specs.Answers.{Lent, accepted, fits, Comes, Answer}

-- what the grammar sees of the condition that begins with the first event
abbrev pub word_of : List Event → Word
word_of es = visible (gathered (extent_of es))

-- Spelled by the grammar: a condition begins, all its nodes are closed, its word is one of the grammar, and no span, name, literal or
-- minus sign of it gives cause for a refusal, 4 to 10.
pub record Sound (source : List ℕ) (es : List Event) : Type 0 where
  pub begins : starts es ≡ true
  pub closes : is_closed (ending_of es) ≡ true
  pub spelled : Spelled (word_of es)
  pub decodes : (i : ℕ) (r : Refusal) → Cause source (word_of es) i r → 4 ≤ (facts_of r).number → (facts_of r).number ≤ 10 → ⊥

-- Within a call's limits: no cause for 3 or 15, and row, slots and text suffice, so that neither 11 nor 12 is given.
pub record Within (source : List ℕ) (es : List Event) (n : Lent) (t : Tree) : Type 0 where
  pub shallow : (i : ℕ) (r : Refusal) → Cause source (word_of es) i r → (facts_of r).number ≢ 3
  pub short : (i : ℕ) (r : Refusal) → Cause source (word_of es) i r → 11 ≤ (facts_of r).number → ⊥
  pub room : nat_lt n.row (length (gathered (extent_of es))) ≡ false
  pub fitting : fits n t ≡ true

-- a condition is accepted exactly if it is spelled by the grammar and within the call's limits, and with its own tree
pub record Exactly (source : List ℕ) (es : List Event) (c : Close) (n : Lent) : Type 0 where
  pub accepts : (s : Sound source es) → Within source es n (tree-BE source s.spelled.value) → (l : List Entry) × Comes source es c n (accepted (tree-BE source s.spelled.value)) l
  pub only : (t : Tree) (l : List Entry) → Comes source es c n (accepted t) l → (s : Sound source es) × Within source es n t × (t ≡ tree-BE source s.spelled.value)

abbrev pub AcceptedExactly : Type 0
AcceptedExactly = (source : List ℕ) (es : List Event) (c : Close) (n : Lent) → Exactly source es c n

-- from the root the slots then hold the condition's tree, and each slot in use is reached once
abbrev pub AcceptedHolds : Type 0
AcceptedHolds =
    (source : List ℕ) (es : List Event) (c : Close) (n : Lent) (t : Tree) (slots : List Slot) (text : List ℕ) (row : List Event) (errors : List Entry) (count : ℕ) (rest : List Event) →
    Answer source es c n (accepted t) slots text row errors count rest →
    (h : Holds slots text (size t - 1) t) × (reached slots text (size t - 1) t h ≡ up_from 0 (size t))
