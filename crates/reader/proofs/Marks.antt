-- Marks of events.
use Rattle.std.proofs.Common.{◌≡◌, Bool, true, false, sym, ap, ◌∙◌, subst}
use Rattle.std.specs.Prelude.{MatchBool}
use denote.Enum.Bare.{same_true, same_false}
use Rattle.kinds.specs.declared.kind.SyntaxKind.{SyntaxKind}
use Rattle.kinds.specs.contracts.kind.SyntaxKind.{the_type}
use Rattle.kinds.specs.contracts.kind.SyntaxKindPartialEq.TheImpl.{ghosts}
use Rattle.syntax.specs.declared.event.Event.{Event}
use Rattle.syntax.specs.declared.span.Span.{Span}
use Rattle.reader.specs.declared.mark.Mark.{Mark}
use Rattle.reader.specs.Symbols.{event, Fits}

-- an event of a form, and a mark of the same form, with their kinds compared
pub fit : (M : SyntaxKind → Mark) → ((k j : SyntaxKind) (s r : Span) → event (M k) s ≡ event (M j) r → k ≡ j) → (b : Bool) (m : Mark) (e : Event) (j k : SyntaxKind) (s : Span) → m ≡ M j → e ≡ event (M k) s → b ≡ ghosts.eq k j → MatchBool b (Fits m e) (Fits m e → ⊥)
fit M one true m e j k s p q h =
    let i = same_true the_type tt k j (sym h) in
    subst (λ n. Fits n e) (sym p) (s, q ∙ ap (λ t. event (M t) s) i)
fit M one false m e j k s p q h =
    λ f. same_false the_type k j (sym h) (one k j s f.0 (sym q ∙ f.1 ∙ ap (λ n. event n f.0) p))
