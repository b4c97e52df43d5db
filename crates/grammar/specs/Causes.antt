-- Why a condition is refused at one of its events.
use Rattle.std.specs.Prelude.{◌≡◌, ℕ, ◌<◌, true, false, List, [], ◌∷◌, ◌++◌, length, Some, None}
use Rattle.kinds.specs.declared.kind.SyntaxKind.TheVariants.{MINUS}
use Rattle.syntax.specs.Events.{span_at}
use Rattle.syntax.specs.declared.event.Event.{Event}
use Rattle.syntax.specs.declared.event.Event.TheVariants.{Token}
use Rattle.syntax.specs.declared.span.Span.{Span}
use Rattle.refusal.specs.declared.refusal.Refusal.{Refusal}
use Rattle.refusal.specs.declared.refusal.Refusal.TheVariants.{Damaged, OutOfPlace, TooDeep, BadSpan}
use Rattle.grammar.specs.Words.{Word}
use Rattle.grammar.specs.Grammar.{T, spell-T}
use Rattle.grammar.specs.Conditions.{Begins}
use Rattle.grammar.specs.Tests.{is_damaged, is_misplaced, is_too_deep, token_refusal, minus_refusal}

-- a minus sign and its operand end a word, and are refused
pub record Minus (source : List ℕ) (w : Word) (r : Refusal) : Type 0 where
  pub before : Word
  pub sign : Span
  pub operand : T
  pub split : w ≡ before ++ (Token MINUS sign ∷ spell-T operand [])
  pub refused : minus_refusal source sign operand ≡ Some r

-- Why an event behind u is refused: the tests are made in this order, and each case says that those before it passed.
pub data Why (source : List ℕ) (u : Word) (e : Event) : Refusal → Type 0 where
  damaged : is_damaged e ≡ true → Why source u e (Damaged (span_at e))
  bad_span : is_damaged e ≡ false → is_misplaced (length source) u e ≡ true → Why source u e (BadSpan (span_at e))
  out_of_place : is_damaged e ≡ false → is_misplaced (length source) u e ≡ false → (Begins (u ++ (e ∷ [])) → ⊥) → Why source u e (OutOfPlace (span_at e))
  too_deep : is_damaged e ≡ false → is_misplaced (length source) u e ≡ false → Begins (u ++ (e ∷ [])) → is_too_deep u e ≡ true → Why source u e (TooDeep (span_at e))
  token : {r : Refusal} → is_damaged e ≡ false → is_misplaced (length source) u e ≡ false → Begins (u ++ (e ∷ [])) → is_too_deep u e ≡ false → token_refusal source e ≡ Some r → Why source u e r
  minus : {r : Refusal} → is_damaged e ≡ false → is_misplaced (length source) u e ≡ false → Begins (u ++ (e ∷ [])) → is_too_deep u e ≡ false → token_refusal source e ≡ None → Minus source (u ++ (e ∷ [])) r → Why source u e r

-- the event at a place of a word gives cause for a refusal
pub record Cause (source : List ℕ) (v : Word) (i : ℕ) (r : Refusal) : Type 0 where
  pub before : Word
  pub event : Event
  pub others : Word
  pub split : v ≡ before ++ (event ∷ others)
  pub place : length before ≡ i
  pub why : Why source before event r

-- the first event that gives cause
pub record FirstCause (source : List ℕ) (v : Word) (r : Refusal) : Type 0 where
  pub at : ℕ
  pub cause : Cause source v at r
  pub first : (j : ℕ) (q : Refusal) → j < at → Cause source v j q → ⊥
