-- A word has at most one first cause.
use Rattle.std.proofs.Common.{◌≡◌, ℕ, ◌<◌, ◌≤◌, Bool, true, false, leb, ◌⊎◌, List, [], ◌∷◌, ◌++◌, length, Some, None, Option, sym, refl, ap, ◌∙◌, subst, subst₂, inl, inr, arith}
use borrow.Author.Tests.{both_ways}
use Rattle.std.proofs.lemmas.Bool.Decides.{leb_tells}
use Rattle.syntax.specs.declared.event.Event.{Event}
use Rattle.refusal.specs.declared.refusal.Refusal.{Refusal}
use Rattle.grammar.specs.Words.{Word}
use Rattle.grammar.specs.Causes.{Minus, Why, damaged, bad_span, out_of_place, too_deep, token, minus, Cause, FirstCause}
use Rattle.grammar.specs.Tests.{minus_refusal}
use Rattle.grammar.proofs.Heads.{heads, tails}
use Rattle.grammar.proofs.Ends.{minus_same}

pub neither : {P : Type 0} {b : Bool} → b ≡ true → b ≡ false → P
neither t f = absurd (both_ways _ f t)

pub some_none : {A P : Type 0} {o : Option A} {x : A} → o ≡ Some x → o ≡ None → P
some_none {A} {P} {o} {x} s n = cc

pub some_same : {A : Type 0} {o : Option A} {x y : A} → o ≡ Some x → o ≡ Some y → x ≡ y
some_same {A} {o} {x} {y} a b = cc

minus_one : (source : List ℕ) (w : Word) (r q : Refusal) → Minus source w r → Minus source w q → r ≡ q
minus_one source w r q m n =
    let e = minus_same m.before n.before m.sign n.sign m.operand n.operand (sym m.split ∙ n.split) in
    some_same m.refused (ap (λ s. minus_refusal source s m.operand) e.0 ∙ ap (λ t. minus_refusal source n.sign t) e.1 ∙ n.refused)

why_one : {source : List ℕ} {u : Word} {e : Event} {r q : Refusal} → Why source u e r → Why source u e q → r ≡ q
why_one (damaged a) (damaged b) = refl
why_one (damaged a) (bad_span b c) = neither a b
why_one (damaged a) (out_of_place b c d) = neither a b
why_one (damaged a) (too_deep b c d f) = neither a b
why_one (damaged a) (token b c d f g) = neither a b
why_one (damaged a) (minus b c d f g h) = neither a b
why_one (bad_span a a₁) (damaged b) = neither b a
why_one (bad_span a a₁) (bad_span b c) = refl
why_one (bad_span a a₁) (out_of_place b c d) = neither a₁ c
why_one (bad_span a a₁) (too_deep b c d f) = neither a₁ c
why_one (bad_span a a₁) (token b c d f g) = neither a₁ c
why_one (bad_span a a₁) (minus b c d f g h) = neither a₁ c
why_one (out_of_place a a₁ a₂) (damaged b) = neither b a
why_one (out_of_place a a₁ a₂) (bad_span b c) = neither c a₁
why_one (out_of_place a a₁ a₂) (out_of_place b c d) = refl
why_one (out_of_place a a₁ a₂) (too_deep b c d f) = absurd (a₂ d)
why_one (out_of_place a a₁ a₂) (token b c d f g) = absurd (a₂ d)
why_one (out_of_place a a₁ a₂) (minus b c d f g h) = absurd (a₂ d)
why_one (too_deep a a₁ a₂ a₃) (damaged b) = neither b a
why_one (too_deep a a₁ a₂ a₃) (bad_span b c) = neither c a₁
why_one (too_deep a a₁ a₂ a₃) (out_of_place b c d) = absurd (d a₂)
why_one (too_deep a a₁ a₂ a₃) (too_deep b c d f) = refl
why_one (too_deep a a₁ a₂ a₃) (token b c d f g) = neither a₃ f
why_one (too_deep a a₁ a₂ a₃) (minus b c d f g h) = neither a₃ f
why_one (token a a₁ a₂ a₃ a₄) (damaged b) = neither b a
why_one (token a a₁ a₂ a₃ a₄) (bad_span b c) = neither c a₁
why_one (token a a₁ a₂ a₃ a₄) (out_of_place b c d) = absurd (d a₂)
why_one (token a a₁ a₂ a₃ a₄) (too_deep b c d f) = neither f a₃
why_one (token a a₁ a₂ a₃ a₄) (token b c d f g) = some_same a₄ g
why_one (token a a₁ a₂ a₃ a₄) (minus b c d f g h) = some_none a₄ g
why_one (minus a a₁ a₂ a₃ a₄ a₅) (damaged b) = neither b a
why_one (minus a a₁ a₂ a₃ a₄ a₅) (bad_span b c) = neither c a₁
why_one (minus a a₁ a₂ a₃ a₄ a₅) (out_of_place b c d) = absurd (d a₂)
why_one (minus a a₁ a₂ a₃ a₄ a₅) (too_deep b c d f) = neither f a₃
why_one (minus a a₁ a₂ a₃ a₄ a₅) (token b c d f g) = some_none g a₄
why_one (minus a a₁ a₂ a₃ a₄ a₅) (minus b c d f g h) = minus_one _ _ _ _ a₅ h

-- an event is fixed by its place
same_front : (u v : Word) (d e : Event) (x y : Word) → u ++ (d ∷ x) ≡ v ++ (e ∷ y) → length u ≡ length v → (u ≡ v) × (d ≡ e)
same_front [] [] d e x y h l = (refl, heads h)
same_front [] (b ∷ v) d e x y h l = absurd (omega arith)
same_front (a ∷ u) [] d e x y h l = absurd (omega arith)
same_front (a ∷ u) (b ∷ v) d e x y h l =
    let r = same_front u v d e x y (tails h) (omega arith) in
    let f = heads h in
    (joined f r.0, r.1)
  where
    joined : a ≡ b → u ≡ v → ◌≡◌ {A = Word} (a ∷ u) (b ∷ v)
    joined p q = cc

-- at most one cause at a place
pub cause_one : (source : List ℕ) (v : Word) (i : ℕ) (r q : Refusal) → Cause source v i r → Cause source v i q → r ≡ q
cause_one source v i r q c d =
    let f = same_front c.before d.before c.event d.event c.others d.others (sym c.split ∙ d.split) (c.place ∙ sym d.place) in
    why_one (subst₂ (λ u e. Why source u e r) f.0 f.1 c.why) d.why

-- and at most one first cause
pub first_same : (source : List ℕ) (v : Word) (r q : Refusal) (c : FirstCause source v r) (d : FirstCause source v q) → (r ≡ q) × (c.at ≡ d.at)
first_same source v r q c d = by_order (leb_tells c.at d.at) (leb_tells d.at c.at)
  where
    by_order : ((leb c.at d.at ≡ true) × (c.at ≤ d.at)) ⊎ ((leb c.at d.at ≡ false) × (d.at < c.at)) → ((leb d.at c.at ≡ true) × (d.at ≤ c.at)) ⊎ ((leb d.at c.at ≡ false) × (c.at < d.at)) → (r ≡ q) × (c.at ≡ d.at)
    by_order (inr l) m = absurd (c.first d.at q l.1 d.cause)
    by_order (inl l) (inr m) = absurd (d.first c.at r m.1 c.cause)
    by_order (inl l) (inl m) =
        let e : c.at ≡ d.at = omega (arith, l.1, m.1) in
        (cause_one source v d.at r q (subst (λ i. Cause source v i r) e c.cause) d.cause, e)
