-- What is written of the trees that a link leads to.
use Rattle.std.proofs.Common.{◌≡◌, ℕ, zero, suc, ◌+◌, ◌-◌, ◌<◌, ◌≤◌, Bool, true, false, ◌&&◌, nat_le, List, ◌++◌, Some, None, Option, sym, refl, ap, ◌∙◌, arith, append_assoc, inl, inr}
use Rattle.std.proofs.lemmas.Bool.{cases_Bool}
use Rattle.std.proofs.lemmas.Bool.Decides.{nat_tests}
use Rattle.std.specs.List.{slice_get}
use Rattle.outline.specs.declared.print.Shown.{Shown}
use Rattle.tree.specs.declared.slot.Slot.{Slot}
use Rattle.outline.specs.Shown.{node_text, broken_text, between_text, separator, trees_at, trees_text, tree_text, below_text}

-- whether a link may be followed
abbrev inside : ℕ → ℕ → ℕ → Bool
inside low top n = nat_le low n && nat_le (suc n) top

inside_true : (low top n : ℕ) → inside low top n ≡ true → (low ≤ n) × (n < top)
inside_true low top n e = (grind (arith, nat_tests), grind (arith, nat_tests))

inside_from : (low top n : ℕ) → low ≤ n → n < top → inside low top n ≡ true
inside_from low top n h k = grind (arith, nat_tests)

inside_false : (low top n : ℕ) → ((low ≤ n) → (n < top) → ⊥) → inside low top n ≡ false
inside_false low top n h = grind (arith, nat_tests)

module _ (v : Shown) where
  at_slot :
      (d link : ℕ) (o : Option Slot) (f g h k : Slot → List ℕ) → ((s : Slot) → f s ≡ g s) → ((s : Slot) → h s ≡ k s) →
      trees_at v d link o f h ≡ trees_at v d link o g k
  at_slot d link None f g h k p q = refl
  at_slot d link (Some s) f g h k p q = rw (p s, q s)

  -- no more links can follow one another than there is room for
  enough :
      (f g d low top link : ℕ) → top ≤ low + f → top ≤ low + g → trees_text v f d low top link ≡ trees_text v g d low top link
  enough f g d low top zero p q = refl
  enough zero zero d low top (suc n) p q = refl
  enough zero (suc g) d low top (suc n) p q = rw (inside_false low top n (λ a b. omega arith))
  enough (suc f) zero d low top (suc n) p q = rw (inside_false low top n (λ a b. omega arith))
  enough (suc f) (suc g) d low top (suc n) p q =
      elim (cases_Bool (inside low top n)) [
        | inl e ↦
            let (above, below) = inside_true low top n e in
            rw e
            (at_slot d (suc n) (slice_get v.tree.slots.now n) _ _ _ _
            (λ s. enough f g (d + 1) low n s.first (omega arith) (omega arith))
            (λ s. enough f g d (suc n) top s.next (omega arith) (omega arith)))
        | inr e ↦ rw e
      ]

  -- a link that is followed
  pub followed :
      (d low top link n : ℕ) (s : Slot) → link ≡ suc n → low ≤ n → n < top → slice_get v.tree.slots.now n ≡ Some s →
      trees_text v (top - low) d low top link
      ≡ tree_text v d low n s ++ (between_text v s.next ++ trees_text v (top - link) d link top s.next)
  followed d low top link n s e h l a =
      let k : ℕ = (top - low) - 1 in
      let room : top - low ≡ suc k = omega arith in
      let below_same = enough k (n - low) (d + 1) low n s.first (omega arith) (omega arith) in
      let behind_same = enough k (top - suc n) d (suc n) top s.next (omega arith) (omega arith) in
      ap (λ r. trees_text v r d low top link) room
      ∙ rw (e, inside_from low top n h l, a, below_same, behind_same)
      (sym (append_assoc (node_text v d s) (below_text v d low n s.first) _))

  -- a link that is broken
  pub broken :
      (room d low top link n : ℕ) → link ≡ suc n → ((low ≤ n) → (n < top) → ⊥) →
      trees_text v room d low top link ≡ broken_text v d link
  broken zero d low top link n e h = rw e refl
  broken (suc room) d low top link n e h = rw (e, inside_false low top n h)

  -- what stands between a tree and the next
  pub between_some : (next : ℕ) → (next ≡ 0 → ⊥) → between_text v next ≡ separator v.form
  between_some zero h = absurd (h refl)
  between_some (suc n) h = refl

  -- one more tree is written
  pub row_on :
      (d low top link n : ℕ) (s : Slot) (done all : List ℕ) → link ≡ suc n → low ≤ n → n < top →
      slice_get v.tree.slots.now n ≡ Some s → done ++ trees_text v (top - low) d low top link ≡ all →
      ((done ++ tree_text v d low n s) ++ between_text v s.next) ++ trees_text v (top - link) d link top s.next ≡ all
  row_on d low top link n s done all e h l a whole =
      append_assoc (done ++ tree_text v d low n s) (between_text v s.next) _
      ∙ append_assoc done (tree_text v d low n s) _
      ∙ ap (λ x. done ++ x) (sym (followed d low top link n s e h l a))
      ∙ whole
