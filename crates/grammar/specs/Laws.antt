-- What holds of every condition.
use Rattle.std.specs.Prelude.{◌≡◌, ℕ, ◌≤◌, false, List, [], ◌∷◌, ◌++◌, ◌≢◌}
use Rattle.syntax.specs.declared.event.Event.{Event}
use Rattle.refusal.specs.Refusals.{facts_of}
use Rattle.refusal.specs.declared.refusal.Refusal.{Refusal}
use Rattle.grammar.specs.Words.{Word}
use Rattle.grammar.specs.Grammar.{BE, spell-BE}
use Rattle.grammar.specs.Nests.{Nests}
use Rattle.grammar.specs.Conditions.{Spelled, Begins}
use Rattle.grammar.specs.Tests.{is_damaged, opens}
use Rattle.grammar.specs.Causes.{Cause, FirstCause}
use Rattle.grammar.specs.Answers.{NoCause}

-- two conditions with one spelling are one condition, with whatever follows
abbrev pub OneReading : Type 0
OneReading = (x y : BE) (k l : Word) → spell-BE x k ≡ spell-BE y l → (x ≡ y) × (k ≡ l)

-- Begins and Ends of a condition nest, kind by kind
abbrev pub Nesting : Type 0
Nesting = (x : BE) (k : Word) → Nests (spell-BE x k) k

-- an event gives at most one cause, and a word has at most one first cause, at one place
abbrev pub OneCause : Type 0
OneCause = (source : List ℕ) (v : Word) (i : ℕ) (r q : Refusal) → Cause source v i r → Cause source v i q → r ≡ q

abbrev pub OneFirstCause : Type 0
OneFirstCause =
    (source : List ℕ) (v : Word) (r q : Refusal) (c : FirstCause source v r) (d : FirstCause source v q) → (r ≡ q) × (c.at ≡ d.at)

-- a front of what begins a condition begins one
abbrev pub FrontsBegin : Type 0
FrontsBegin = (u w : Word) → Begins (u ++ w) → Begins u

-- what begins a condition and leaves no node open is the whole condition, and a whole condition leaves none open
pub record ClosedIsWhole : Type 0 where
  pub whole : (v : Word) → Begins v → (v ≢ []) → opens 0 v ≡ 0 → Spelled v
  pub closes : (v : Word) → Spelled v → opens 0 v ≡ 0

-- no event of a condition is damaged or out of place
abbrev pub NeverOutOfPlace : Type 0
NeverOutOfPlace = (v : Word) → Spelled v → (u w : Word) (e : Event) → v ≡ u ++ (e ∷ w) → (is_damaged e ≡ false) × Begins (u ++ (e ∷ []))

-- a word that leaves no node open and gives no cause cannot fail to be a condition
abbrev pub WithoutCauseSpelled : Type 0
WithoutCauseSpelled = (source : List ℕ) (v : Word) → NoCause source v → (v ≢ []) → opens 0 v ≡ 0 → (Spelled v → ⊥) → ⊥

-- a condition that gives no cause for a refusal from 3 on gives none
abbrev pub SpelledWithoutCause : Type 0
SpelledWithoutCause =
    (source : List ℕ) (v : Word) → Spelled v → ((i : ℕ) (r : Refusal) → Cause source v i r → 3 ≤ (facts_of r).number → ⊥) → NoCause source v
