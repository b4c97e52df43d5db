-- The events of a condition are its own extent.
use Rattle.std.proofs.Common.{◌≡◌, ℕ, zero, suc, false, List, [], ◌∷◌, ◌++◌, length, sym, refl, ap, ◌∙◌, arith}
use Rattle.std.proofs.lemmas.List.{append_assoc, append-nil}
use Rattle.syntax.specs.Events.{is_boundary}
use Rattle.syntax.specs.declared.event.Event.{Event}
use Rattle.syntax.specs.declared.event.Event.TheVariants.{Error, Begin, End, Token}
use Rattle.grammar.specs.Words.{Word}
use Rattle.grammar.specs.Grammar.{BE, spell-BE}
use Rattle.grammar.specs.Grammar.BE.{boolean_expr}
use Rattle.grammar.specs.Extents.{open_behind, up_to_closed, closed, ending_from, gathered, visible}
use Rattle.grammar.specs.Tests.{opens}
use Rattle.grammar.specs.Own.{Other, whitespace, newline, comment, error, Among, nothing, own, other, from_first, OwnExtent}
use Rattle.grammar.proofs.Ends.{opens-++, whole_front, whole_closes}
use Rattle.grammar.proofs.Soundness.{stray, Sound, sound-BE, no_boundary}

-- both counts of open nodes agree
opens_behind : (e : Event) (n : ℕ) → opens (suc n) (e ∷ []) ≡ open_behind e n
opens_behind (Error m s) n = refl
opens_behind (Begin k s) n = omega arith
opens_behind (End k s) n = omega arith
opens_behind (Token k s) n = refl

-- others are passed over
passed : {d : Event} → Other d → (n : ℕ) → (is_boundary d ≡ false) × (open_behind d n ≡ suc n)
passed whitespace n = (refl, refl)
passed newline n = (refl, refl)
passed comment n = (refl, refl)
passed error n = (refl, refl)

unseen : {d : Event} → Other d → (es : List Event) → visible (gathered (d ∷ es)) ≡ visible (gathered es)
unseen whitespace es = refl
unseen newline es = refl
unseen comment es = refl
unseen error es = refl

-- what is left of a condition behind a front of it leaves a node open
left_open : (b : BE) (c : Event) (u : Word) (e : Event) (v : Word) → spell-BE b [] ≡ c ∷ (u ++ (e ∷ v)) → opens 0 (c ∷ u) ≡ 0 → ⊥
left_open b c u e v p o = absurd (omega (arith, ap length (whole_front b (c ∷ u) (e ∷ v) p (λ q. cc) o)))

-- behind a front of a condition its other events are passed, and none that follows
walked : {v : Word} {es : List Event} → Among v es → (b : BE) (c : Event) (u : Word) (rest : List Event) → spell-BE b [] ≡ c ∷ (u ++ v) → Sound v → (n : ℕ) → opens 0 (c ∷ u) ≡ n → (up_to_closed n (es ++ rest) ≡ es) × (ending_from n (es ++ rest) ≡ closed)
walked nothing b c u rest p h zero o = (refl, refl)
walked nothing b c u rest p h (suc n) o =
    absurd (omega (arith, whole_closes b, ap (opens 0) (p ∙ ap (λ w. c ∷ w) (append-nil u)), o))
walked (own {e = e} {v = v} m) b c u rest p h zero o = absurd (left_open b c u e v p o)
walked (own {e = e} {v = v} m) b c u rest p h (suc n) o =
    let q = p ∙ ap (λ w. c ∷ w) (sym (append_assoc u (e ∷ []) v)) in
    let k = opens-++ 0 (c ∷ u) (e ∷ []) ∙ ap (λ j. opens j (e ∷ [])) o ∙ opens_behind e n in
    let w = walked m b c (u ++ (e ∷ [])) rest q h.1 (open_behind e n) k in
    (rw (no_boundary e h.0) (ap (λ l. e ∷ l) w.0), rw (no_boundary e h.0) w.1)
walked (other {e = e} {v = v} x m) b c u rest p h zero o = absurd (left_open b c u e v p o)
walked (other {d = d} x m) b c u rest p h (suc n) o =
    let w = walked m b c u rest p h (suc n) o in
    let t = passed x n in
    (rw (t.0, t.1) (ap (λ l. d ∷ l) w.0), rw (t.0, t.1) w.1)

-- own events are kept, others are not
kept : (e : Event) (es : List Event) → stray e ≡ false → visible (gathered (e ∷ es)) ≡ e ∷ visible (gathered es)
kept (Error m s) es h = cc
kept (Begin k s) es h = refl
kept (End k s) es h = refl
kept (Token k s) es h = rw h

seen : {v : Word} {es : List Event} → Among v es → Sound v → visible (gathered es) ≡ v
seen nothing h = refl
seen (own {e = e} {es = es} m) h = kept e es h.0 ∙ ap (λ w. e ∷ w) (seen m h.1)
seen (other {es = es} x m) h = unseen x es ∙ seen m h

pub own_extent : OwnExtent
unfolding spell-BE
own_extent (boolean_expr s0 x1 x2 s1) _ rest (from_first {e = e} m) =
    let h = sound-BE (boolean_expr s0 x1 x2 s1) [] tt in
    let w = walked m (boolean_expr s0 x1 x2 s1) e [] rest refl h.1 1 refl in
    record { begins = refl; extent = ap (λ l. e ∷ l) w.0; closes = w.1; word = ap (λ l. e ∷ l) (seen m h.1) }
