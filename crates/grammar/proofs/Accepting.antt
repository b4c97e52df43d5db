-- Acceptance in the grammar's words, and what the slots hold.
use Rattle.std.proofs.Common.{◌≡◌, ℕ, ◌-◌, ◌<◌, ◌≤◌, Bool, true, false, leb, ◌⊎◌, List, length, None, sym, refl, ap, ◌∙◌, subst, inl, inr, arith, leb-true}
use Rattle.std.proofs.lemmas.Bool.Decides.{leb_tells}
use Rattle.syntax.specs.declared.event.Event.{Event}
use Rattle.source.specs.Meaning.{Close}
use Rattle.refusal.specs.Refusals.{facts_of}
use Rattle.refusal.specs.declared.refusal.Refusal.{Refusal}
use Rattle.kinds.proofs.Inverse.{and_both}
use Rattle.tree.specs.Labels.{blank_slot}
use Rattle.tree.specs.Layout.{layout}
use Rattle.tree.specs.Trees.{Tree, size, text_of}
use Rattle.tree.specs.declared.slot.Slot.{Slot}
use Rattle.tree.proofs.Fits.{fit_within}
use Rattle.tree.proofs.Held.{tree_held, tree_reached, last_of}
use Rattle.tree.proofs.Layouts.{length_tree}
use Rattle.tree.proofs.Within as part
use Rattle.grammar.specs.declared.entry.Entry.{Entry}
use Rattle.grammar.specs.Built.{tree-BE}
use Rattle.grammar.specs.Causes.{Cause}
use Rattle.grammar.specs.Conditions.{Spelled}
use Rattle.grammar.specs.Extents.{visible, Ending, closed, boundary, close, ending_of, is_closed, fault_at}
use Rattle.grammar.specs.Answers.{Lent, Outcome, accepted, NoCause, fits, Judged, caused, over, full, read, Comes, none_begins, in_fault, too_long, judged}
use Rattle.grammar.specs.Acceptance.{word_of, Sound, Within, AcceptedExactly, AcceptedHolds}
use Rattle.grammar.proofs.Laws.{spelled_without_cause}

closed_no_fault : (e : Ending) (c : Close) → is_closed e ≡ true → fault_at e c ≡ None
closed_no_fault closed c h = refl
closed_no_fault boundary c h = cc
closed_no_fault close c h = cc

no_cause : (source : List ℕ) (es : List Event) (n : Lent) (t : Tree) → Sound source es → Within source es n t → NoCause source (word_of es)
no_cause source es n t s w =
    spelled_without_cause source (word_of es) s.spelled
    (λ i r c h. by_number i r c h (leb_tells 4 (facts_of r).number) (leb_tells (facts_of r).number 10))
  where
    by_number : (i : ℕ) (r : Refusal) → Cause source (word_of es) i r → 3 ≤ (facts_of r).number → ((leb 4 (facts_of r).number ≡ true) × (4 ≤ (facts_of r).number)) ⊎ ((leb 4 (facts_of r).number ≡ false) × ((facts_of r).number < 4)) → ((leb (facts_of r).number 10 ≡ true) × ((facts_of r).number ≤ 10)) ⊎ ((leb (facts_of r).number 10 ≡ false) × (10 < (facts_of r).number)) → ⊥
    by_number i r c h (inl a) (inl b) = s.decodes i r c a.1 b.1
    by_number i r c h (inl a) (inr b) = w.short i r c (omega (arith, b.1))
    by_number i r c h (inr a) b = w.shallow i r c (omega (arith, h, a.1))

pub accepts : (source : List ℕ) (es : List Event) (c : Close) (n : Lent) (s : Sound source es) → Within source es n (tree-BE source s.spelled.value) → (l : List Entry) × Comes source es c n (accepted (tree-BE source s.spelled.value)) l
accepts source es c n s w =
    (_, judged s.begins (closed_no_fault (ending_of es) c s.closes) w.room (read (no_cause source es n _ s w) s.closes s.spelled w.fitting))

-- what an accepted outcome tells
pub only_judged : {source : List ℕ} {row : List Event} {w : Bool} {n : Lent} {o : Outcome} {l : List Entry} → Judged source row w n o l → (t : Tree) → o ≡ accepted t → NoCause source (visible row) × (w ≡ true) × (s : Spelled (visible row)) × (t ≡ tree-BE source s.value) × (fits n t ≡ true)
only_judged (caused c) t e = cc
only_judged (over k w) t e = cc
only_judged (full k w s f) t e = cc
only_judged {n = n} (read k w s f) t e =
    let same = tree_eq e in (k, w, s, sym same, ap (λ (x : Tree). fits n x) (sym same) ∙ f)
  where
    tree_eq : {a b : Tree} → accepted a ≡ accepted b → a ≡ b
    tree_eq h = cc

pub only_comes : {source : List ℕ} {es : List Event} {c : Close} {n : Lent} {o : Outcome} {l : List Entry} → Comes source es c n o l → (t : Tree) → o ≡ accepted t → (s : Sound source es) × Within source es n t × (t ≡ tree-BE source s.spelled.value)
only_comes (none_begins a) t e = cc
only_comes (in_fault a f) t e = cc
only_comes (too_long a f h) t e = cc
only_comes (judged a f h j) t e =
    let k = only_judged j t e in (
      record { begins = a; closes = k.1; spelled = k.2; decodes = λ i r c x y. k.0 i r c },
      record { shallow = λ i r c x. k.0 i r c; short = λ i r c x. k.0 i r c; room = h; fitting = k.4 },
      k.3,
    )

pub accepted_exactly : AcceptedExactly
accepted_exactly source es c n = record { accepts = accepts source es c n; only = λ t l m. only_comes m t refl }

pub accepted_holds : AcceptedHolds
accepted_holds source es c n t slots text row errors count rest a =
    let w = (only_comes a.comes t refl).1 in
    let room = and_both (leb (size t) n.slots) (leb (length (text_of t)) n.text) w.fitting in
    let S : List Slot → Type 0 = λ x. part.Within x 0 (layout t) in
    let X : List ℕ → Type 0 = λ x. part.Within x 0 (text_of t) in
    let slots_in = subst S (sym a.slots_are) (fit_within blank_slot n.slots (layout t) (omega (arith, leb-true _ _ room.0, length_tree t 0 0 0))) in
    let text_in = subst X (sym a.text_is) (fit_within 0 n.text (text_of t) (leb-true _ _ room.1)) in
    let h = tree_held slots text t 0 0 0 (size t - 1) (last_of t) slots_in text_in in
    (h, tree_reached slots text t 0 0 0 (size t - 1) (last_of t) slots_in h)
