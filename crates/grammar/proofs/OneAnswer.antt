-- A condition has at most one answer.
use Rattle.std.proofs.Common.{◌≡◌, ℕ, Bool, List, [], length, sym, refl, ap, ◌∙◌}
use Rattle.syntax.specs.declared.event.Event.{Event}
use Rattle.source.specs.Meaning.{Close}
use Rattle.refusal.specs.declared.refusal.Refusal.TheVariants.{SourceFault, Full}
use Rattle.tree.specs.Labels.{blank_slot}
use Rattle.lent.specs.Lists.{fit}
use Rattle.tree.specs.Trees.{size, text_of}
use Rattle.grammar.specs.declared.entry.Entry.{Entry}
use Rattle.grammar.specs.Words.{Word}
use Rattle.grammar.specs.Grammar.{BE}
use Rattle.grammar.specs.Built.{tree-BE}
use Rattle.grammar.specs.Conditions.{Spelled}
use Rattle.grammar.specs.Answers.{Lent, Outcome, accepted, refused, Judged, caused, over, full, read, Comes, none_begins, in_fault, too_long, judged, OneAnswer, entries_with, fits, slots_of, text_in, no_entry}
use Rattle.grammar.proofs.Heads.{ap2}
use Rattle.grammar.proofs.OneCause.{neither, some_none, some_same, first_same}
use Rattle.grammar.proofs.Unique.{same-BE}

value_one : {v : Word} (s t : Spelled v) → s.value ≡ t.value
value_one s t = (same-BE s.value t.value [] [] (sym s.spelled ∙ t.spelled)).0

judged_one : {source : List ℕ} {row : List Event} {w : Bool} {n : Lent} {o p : Outcome} {l m : List Entry} → Judged source row w n o l → Judged source row w n p m → (o ≡ p) × (l ≡ m)
judged_one {row = row} (caused c) (caused d) =
    let e = first_same _ _ _ _ c d in (ap refused e.0, ap2 (λ r i. entries_with r i row) e.0 e.1)
judged_one (caused c) (over k w) = absurd (k _ _ c.cause)
judged_one (caused c) (full k w s f) = absurd (k _ _ c.cause)
judged_one (caused c) (read k w s f) = absurd (k _ _ c.cause)
judged_one (over k w) (caused d) = absurd (k _ _ d.cause)
judged_one (over k w) (over k' w') = (refl, refl)
judged_one (over k w) (full k' w' s f) = neither w' w
judged_one (over k w) (read k' w' s f) = neither w' w
judged_one (full k w s f) (caused d) = absurd (k _ _ d.cause)
judged_one (full k w s f) (over k' w') = neither w w'
judged_one {source = source} (full k w s f) (full k' w' s' f') =
    (ap (λ (b : BE). refused (Full (size (tree-BE source b)) (length (text_of (tree-BE source b))))) (value_one s s'), refl)
judged_one {source = source} {n = n} (full k w s f) (read k' w' s' f') =
    neither f' (sym (ap (λ (b : BE). fits n (tree-BE source b)) (value_one s s')) ∙ f)
judged_one (read k w s f) (caused d) = absurd (k _ _ d.cause)
judged_one (read k w s f) (over k' w') = neither w w'
judged_one {source = source} {n = n} (read k w s f) (full k' w' s' f') =
    neither f (ap (λ (b : BE). fits n (tree-BE source b)) (value_one s s') ∙ f')
judged_one {source = source} (read k w s f) (read k' w' s' f') = (ap (λ (b : BE). accepted (tree-BE source b)) (value_one s s'), refl)

comes_one : {source : List ℕ} {es : List Event} {c : Close} {n : Lent} {o p : Outcome} {l m : List Entry} → Comes source es c n o l → Comes source es c n p m → (o ≡ p) × (l ≡ m)
comes_one (none_begins a) (none_begins b) = (refl, refl)
comes_one (none_begins a) (in_fault b f) = neither b a
comes_one (none_begins a) (too_long b f t) = neither b a
comes_one (none_begins a) (judged b f t j) = neither b a
comes_one (in_fault a e) (none_begins b) = neither a b
comes_one (in_fault a e) (in_fault b f) = (ap (λ x. refused (SourceFault x)) (some_same e f), refl)
comes_one (in_fault a e) (too_long b f t) = some_none e f
comes_one (in_fault a e) (judged b f t j) = some_none e f
comes_one (too_long a e s) (none_begins b) = neither a b
comes_one (too_long a e s) (in_fault b f) = some_none f e
comes_one (too_long a e s) (too_long b f t) = (refl, refl)
comes_one (too_long a e s) (judged b f t j) = neither s t
comes_one (judged a e s i) (none_begins b) = neither a b
comes_one (judged a e s i) (in_fault b f) = some_none f e
comes_one (judged a e s i) (too_long b f t) = neither t s
comes_one (judged a e s i) (judged b f t j) = judged_one i j

pub one_answer : OneAnswer
one_answer source es c n o p xs ys t u row row' errs errs' k l rest rest' a b =
    let e = comes_one a.comes b.comes in (
      e.0,
      a.slots_are ∙ ap (λ q. fit blank_slot n.slots (slots_of q)) e.0 ∙ sym b.slots_are,
      a.text_is ∙ ap (λ q. fit 0 n.text (text_in q)) e.0 ∙ sym b.text_is,
      a.row_is ∙ sym b.row_is,
      a.errors_are ∙ ap (λ q. fit no_entry n.errors q) e.1 ∙ sym b.errors_are,
      a.count_is ∙ ap (λ (q : List Entry). length q) e.1 ∙ sym b.count_is,
      a.rest_is ∙ sym b.rest_is,
    )
