-- Packed bytes mean what is read from them, and nothing else.
use Rattle.std.proofs.Common.{◌≡◌, ℕ, zero, suc, ◌+◌, ◌<◌, ◌≤◌, List, [], ◌∷◌, length, get_or, drop, Some, None, Option, Ok, Err, sym, refl, ap, ◌∙◌, subst, subst₂, inl, inr, arith}
use Rattle.std.proofs.lemmas.Bool.Decides.{nat_tests, leb_tells, eqb_tells}
use Rattle.syntax.specs.declared.event.Event.{Event}
use Rattle.syntax.specs.Spans.{span_of}
use Rattle.source.specs.declared.close.Fault.{Fault}
use Rattle.source.specs.Meaning.{Close, next_of}
use Rattle.source.specs.Records.{two, four, size_of, event_of}
use Rattle.source.specs.Means.{Means, ended, given, head_cut, unknown_tag, wrong_length, payload_cut, unknown_kind}
use Rattle.source.specs.Reading.{front_of, known, events_in, close_in, ReadOneWay}
use Rattle.source.proofs.Fronts.{event_events, event_close, closed_events, closed_close}

-- what stands first, at each shape of the bytes
front_short : (bs : List ℕ) → length bs < 3 → front_of bs ≡ Err Fault.Cut
front_short bs l = grind (arith, nat_tests)

front_tag : (tag h l : ℕ) (bs : List ℕ) → 4 < tag → front_of (tag ∷ h ∷ l ∷ bs) ≡ Err Fault.UnknownTag
front_tag tag h l bs g = grind (arith, nat_tests)

front_length : (tag h l : ℕ) (bs : List ℕ) → tag ≤ 4 → (two h l ≡ size_of tag → ⊥) → front_of (tag ∷ h ∷ l ∷ bs) ≡ Err Fault.WrongLength
front_length tag h l bs g n = grind (arith, nat_tests)

front_payload : (tag h l : ℕ) (bs : List ℕ) → tag ≤ 4 → two h l ≡ size_of tag → length bs < size_of tag → front_of (tag ∷ h ∷ l ∷ bs) ≡ Err Fault.Cut
front_payload tag h l bs g e n = grind (arith, nat_tests)

front_end : (bs : List ℕ) → front_of (0 ∷ 0 ∷ 0 ∷ bs) ≡ Ok None
front_end bs = grind (arith, nat_tests)

front_full : (tag m n s t u v w x y z : ℕ) (bs : List ℕ) → 0 < tag → tag ≤ 4 → front_of (tag ∷ 0 ∷ 10 ∷ m ∷ n ∷ s ∷ t ∷ u ∷ v ∷ w ∷ x ∷ y ∷ z ∷ bs) ≡ known (event_of tag (two m n) (span_of (four s t u v) (four w x y z)))
front_full zero m n s t u v w x y z bs p g = absurd (omega arith)
front_full (suc tag) m n s t u v w x y z bs p g = grind (arith, nat_tests)

closed_means : (bs : List ℕ) (c : Close) → front_of bs ≡ next_of [] c → Means bs [] c → Means bs (events_in bs 0) (close_in bs 0)
closed_means bs c h m = subst₂ (λ es d. Means bs es d) (sym (closed_events bs c (sym h))) (sym (closed_close bs c (sym h))) m

closed_only : (bs : List ℕ) (c : Close) → front_of bs ≡ next_of [] c → ([] ≡ events_in bs 0) × (c ≡ close_in bs 0)
closed_only bs c h = (sym (closed_events bs c (sym h)), sym (closed_close bs c (sym h)))

tag_known : (tag n : ℕ) (s : _) (e : Event) → event_of tag n s ≡ Some e → (0 < tag) × (tag ≤ 4)
tag_known zero n s e h = let z : ◌≡◌ {A = ℕ} 0 1 = cc in absurd (omega arith)
tag_known (suc zero) n s e h = (omega arith, omega arith)
tag_known (suc (suc zero)) n s e h = (omega arith, omega arith)
tag_known (suc (suc (suc zero))) n s e h = (omega arith, omega arith)
tag_known (suc (suc (suc (suc zero)))) n s e h = (omega arith, omega arith)
tag_known (suc (suc (suc (suc (suc tag))))) n s e h = let z : ◌≡◌ {A = ℕ} 0 1 = cc in absurd (omega arith)

only : {bs : List ℕ} {es : List Event} {c : Close} → Means bs es c → (es ≡ events_in bs 0) × (c ≡ close_in bs 0)
only (ended {behind = bs}) = closed_only (0 ∷ 0 ∷ 0 ∷ bs) None (front_end bs)
only (given {tag = tag} {m = m} {n = n} {s = s} {t = t} {u = u} {v = v} {w = w} {x = x} {y = y} {z = z} {behind = bs} {e = e} h r) =
    let k = tag_known tag _ _ e h in
    let f = sym (front_full tag m n s t u v w x y z bs k.0 k.1 ∙ ap known h) in
    let all : List ℕ = tag ∷ 0 ∷ 10 ∷ m ∷ n ∷ s ∷ t ∷ u ∷ v ∷ w ∷ x ∷ y ∷ z ∷ bs in
    let i = only r in
    (ap (λ es. e ∷ es) i.0 ∙ sym (event_events all e f), i.1 ∙ sym (event_close all e f))
only (head_cut {bytes = bs} l) = closed_only bs (Some Fault.Cut) (front_short bs l)
only (unknown_tag {tag = tag} {h = h} {l = l} {behind = bs} g) = closed_only (tag ∷ h ∷ l ∷ bs) (Some Fault.UnknownTag) (front_tag tag h l bs g)
only (wrong_length {tag = tag} {h = h} {l = l} {behind = bs} g n) = closed_only (tag ∷ h ∷ l ∷ bs) (Some Fault.WrongLength) (front_length tag h l bs g n)
only (payload_cut {tag = tag} {h = h} {l = l} {behind = bs} g e n) = closed_only (tag ∷ h ∷ l ∷ bs) (Some Fault.Cut) (front_payload tag h l bs g e n)
only (unknown_kind {tag = tag} {m = m} {n = n} {s = s} {t = t} {u = u} {v = v} {w = w} {x = x} {y = y} {z = z} {behind = bs} p g h) =
    closed_only (tag ∷ 0 ∷ 10 ∷ m ∷ n ∷ s ∷ t ∷ u ∷ v ∷ w ∷ x ∷ y ∷ z ∷ bs) (Some Fault.UnknownKind) (front_full tag m n s t u v w x y z bs p g ∙ ap known h)

-- a list by its first n elements and the rest
abbrev spread : ℕ → List ℕ → List ℕ
spread zero bs = bs
spread (suc n) bs = get_or bs 0 0 ∷ spread n (drop 1 bs)

spread_is : (n : ℕ) (bs : List ℕ) → n ≤ length bs → spread n bs ≡ bs
spread_is zero bs l = refl
spread_is (suc n) [] l = absurd (omega arith)
spread_is (suc n) (b ∷ bs) l = ap (λ cs. b ∷ cs) (spread_is n bs (omega arith))

abbrev MeansIt : List ℕ → Type 0
MeansIt bs = Means bs (events_in bs 0) (close_in bs 0)

means_known : (o : Option Event) (tag m n s t u v w x y z : ℕ) (bs : List ℕ) → event_of tag (two m n) (span_of (four s t u v) (four w x y z)) ≡ o → 0 < tag → tag ≤ 4 → MeansIt bs → MeansIt (tag ∷ 0 ∷ 10 ∷ m ∷ n ∷ s ∷ t ∷ u ∷ v ∷ w ∷ x ∷ y ∷ z ∷ bs)
means_known None tag m n s t u v w x y z bs h p g r =
    closed_means (tag ∷ 0 ∷ 10 ∷ m ∷ n ∷ s ∷ t ∷ u ∷ v ∷ w ∷ x ∷ y ∷ z ∷ bs) (Some Fault.UnknownKind) (front_full tag m n s t u v w x y z bs p g ∙ ap known h) (unknown_kind p g h)
means_known (Some e) tag m n s t u v w x y z bs h p g r =
    let all : List ℕ = tag ∷ 0 ∷ 10 ∷ m ∷ n ∷ s ∷ t ∷ u ∷ v ∷ w ∷ x ∷ y ∷ z ∷ bs in
    let f = sym (front_full tag m n s t u v w x y z bs p g ∙ ap known h) in
    subst₂ (λ es d. Means all es d) (sym (event_events all e f)) (sym (event_close all e f)) (given h r)

-- a record of the right length
means_sized : (tag : ℕ) (bs : List ℕ) → tag ≤ 4 → ((ds : List ℕ) → length ds < 3 + length bs → MeansIt ds) → MeansIt (tag ∷ 0 ∷ size_of tag ∷ bs)
means_sized zero bs g ih = closed_means (0 ∷ 0 ∷ 0 ∷ bs) None (front_end bs) ended
means_sized (suc tag) bs g ih =
    elim (leb_tells 10 (length bs)) [
      | inl l ↦
          let whole : spread 10 bs ≡ bs = spread_is 10 bs l.1 in
          let rest : MeansIt (drop 1 (drop 1 (drop 1 (drop 1 (drop 1 (drop 1 (drop 1 (drop 1 (drop 1 (drop 1 bs)))))))))) = ih _ (omega (arith, ap length whole)) in
          subst (λ cs. MeansIt (suc tag ∷ 0 ∷ 10 ∷ cs)) whole (means_known _ (suc tag) _ _ _ _ _ _ _ _ _ _ _ refl (omega arith) g rest)
      | inr l ↦ closed_means (suc tag ∷ 0 ∷ 10 ∷ bs) (Some Fault.Cut) (front_payload (suc tag) 0 10 bs g refl l.1) (payload_cut g refl l.1)
    ]

size_few : (tag : ℕ) → size_of tag ≤ 10
size_few zero = omega arith
size_few (suc tag) = omega arith

means_head : (tag h l : ℕ) (bs : List ℕ) → ((ds : List ℕ) → length ds < 3 + length bs → MeansIt ds) → MeansIt (tag ∷ h ∷ l ∷ bs)
means_head tag h l bs ih =
    elim (leb_tells tag 4) [
      | inl g ↦
          elim (eqb_tells (two h l) (size_of tag)) [
            | inl e ↦
                let high : 0 ≡ h = omega (arith, size_few tag) in
                let low : size_of tag ≡ l = omega (arith, size_few tag) in
                subst₂ (λ i j. MeansIt (tag ∷ i ∷ j ∷ bs)) high low (means_sized tag bs g.1 ih)
            | inr n ↦ closed_means (tag ∷ h ∷ l ∷ bs) (Some Fault.WrongLength) (front_length tag h l bs g.1 n.1) (wrong_length g.1 n.1)
          ]
      | inr g ↦ closed_means (tag ∷ h ∷ l ∷ bs) (Some Fault.UnknownTag) (front_tag tag h l bs g.1) (unknown_tag g.1)
    ]

-- the number bounds the length of the bytes
means : (n : ℕ) (bs : List ℕ) → length bs ≤ n → MeansIt bs
means n [] b = head_cut (omega arith)
means n (h ∷ []) b = head_cut (omega arith)
means n (h ∷ l ∷ []) b = head_cut (omega arith)
means zero (tag ∷ h ∷ l ∷ bs) b = absurd (omega arith)
means (suc n) (tag ∷ h ∷ l ∷ bs) b = let ih = means n in means_head tag h l bs (λ ds k. ih ds (omega arith))

pub read_one_way : ReadOneWay
read_one_way bs = (means (length bs) bs (omega arith), λ es c r. only r)
