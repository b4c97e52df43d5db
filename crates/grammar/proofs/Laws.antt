-- The laws of conditions, proved.
use Rattle.std.proofs.Common.{◌≡◌, ℕ, ◌≤◌, Bool, true, false, List, [], ◌∷◌, ◌++◌, length, sym, refl, ap, ◌∙◌, subst, lit≤}
use Rattle.std.proofs.lemmas.List.{append_assoc, append-nil}
use Rattle.syntax.specs.declared.event.Event.{Event}
use Rattle.refusal.specs.Refusals.{facts_of}
use Rattle.refusal.specs.declared.refusal.Refusal.{Refusal}
use Rattle.grammar.specs.Words.{Word}
use Rattle.grammar.specs.Tests.{is_damaged, is_misplaced, opens}
use Rattle.grammar.specs.Causes.{Why, damaged, bad_span, out_of_place, too_deep, token, minus}
use Rattle.grammar.proofs.Least.{Least, least_token, least_minus}
use Rattle.grammar.proofs.OneCause.{neither}
use Rattle.grammar.specs.Conditions.{Begins}
use Rattle.grammar.specs.Laws.{FrontsBegin, ClosedIsWhole, NeverOutOfPlace, WithoutCauseSpelled, SpelledWithoutCause}
use Rattle.grammar.proofs.Ends.{whole_front, whole_closes}
use Rattle.grammar.proofs.Soundness.{not_damaged, Sound, sound-BE, sound_at}

pub fronts_begin : FrontsBegin
fronts_begin u w b =
    record { value = b.value; more = w ++ b.more; spelled = b.spelled ∙ append_assoc u w b.more }

pub closed_is_whole : ClosedIsWhole
closed_is_whole =
    record {
      whole = λ v b n o. record {
        value = b.value;
        spelled = sym (b.spelled ∙ ap (λ w. v ++ w) (whole_front b.value v b.more b.spelled n o) ∙ append-nil v);
      };
      closes = λ v s. ap (opens 0) s.spelled ∙ whole_closes s.value;
    }

pub never_out_of_place : NeverOutOfPlace
never_out_of_place v s u w e p =
    let spelled = sym s.spelled ∙ p in (
      not_damaged e (sound_at u e w (subst Sound spelled (sound-BE s.value [] tt))),
      record { value = s.value; more = w; spelled = spelled ∙ sym (append_assoc u (e ∷ []) w) },
    )

why_spelled : {source : List ℕ} {u : Word} {e : Event} {r : Refusal} → is_damaged e ≡ false → Begins (u ++ (e ∷ [])) → Why source u e r → 3 ≤ (facts_of r).number
why_spelled d b (damaged h) = neither h d
why_spelled d b (bad_span h m) = lit≤ tt
why_spelled d b (out_of_place h m n) = absurd (n b)
why_spelled d b (too_deep h m k t) = lit≤ tt
why_spelled {source} {u} {e} d b (token h m k t f) = subst Least f (least_token source e)
why_spelled {source} {u} {e} d b (minus h m k t f x) = subst Least x.refused (least_minus source x.sign x.operand)

pub spelled_without_cause : SpelledWithoutCause
spelled_without_cause source v s none i r c =
    let p = never_out_of_place v s c.before c.others c.event c.split in
    none i r c (why_spelled p.0 p.1 c.why)

-- the last event of a word that begins no condition gives cause
last_cause : (source : List ℕ) (u : Word) (e : Event) (d m : Bool) → is_damaged e ≡ d → is_misplaced (length source) u e ≡ m → (Begins (u ++ (e ∷ [])) → ⊥) → (r : Refusal) × Why source u e r
last_cause source u e true m d p n = (_, damaged d)
last_cause source u e false true d p n = (_, bad_span d p)
last_cause source u e false false d p n = (_, out_of_place d p n)

snoc : (v : Word) → (v ≡ [] → ⊥) → (u : Word) × (e : Event) × (v ≡ u ++ (e ∷ []))
snoc [] n = absurd (n refl)
snoc (a ∷ []) n = ([], a, refl)
snoc (a ∷ b ∷ v) n =
    let s = snoc (b ∷ v) (λ e. absurd (not_nil e)) in (a ∷ s.0, s.1, ap (λ w. a ∷ w) s.2)
  where
    not_nil : ◌≡◌ {A = Word} (b ∷ v) [] → ⊥
    not_nil e = cc

pub without_cause_spelled : WithoutCauseSpelled
without_cause_spelled source v none n o no_spelled =
    let s = snoc v n in
    let no_begins : Begins (s.0 ++ (s.1 ∷ [])) → ⊥ = λ b. no_spelled (closed_is_whole.whole v (subst Begins (sym s.2) b) n o) in
    let c = last_cause source s.0 s.1 (is_damaged s.1) (is_misplaced (length source) s.0 s.1) refl refl no_begins in
    none (length s.0) c.0 (record { before = s.0; event = s.1; others = []; split = s.2; place = refl; why = c.1 })
