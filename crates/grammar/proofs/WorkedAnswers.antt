-- Whole answers worked out.
use Rattle.std.proofs.Common.{◌≡◌, ℕ, ◌+◌, ◌<◌, Bool, true, false, ◌||◌, List, [], ◌∷◌, ◌++◌, length, drop, is_some, Some, None, Option, sym, refl, ap, ◌∙◌, subst, arith, length-append}
use Rattle.std.proofs.lemmas.List.{append_assoc, append-nil}
use Rattle.kinds.specs.Kinds.{same}
use Rattle.kinds.specs.declared.kind.SyntaxKind.TheVariants.{EXPR, TERM, ERROR, INTEGER_LIT, SUB, OR_KW, CONTAINS_KW, MINUS}
use Rattle.syntax.specs.Events.{blank}
use Rattle.syntax.specs.Spans.{span_of}
use Rattle.syntax.specs.declared.event.Event.{Event}
use Rattle.syntax.specs.declared.event.Event.TheVariants.{Error, Begin, End, Token}
use Rattle.source.specs.Meaning.{Close}
use Rattle.refusal.specs.declared.refusal.Refusal.{Refusal}
use Rattle.refusal.specs.declared.refusal.Refusal.TheVariants.{Damaged, InvalidInteger}
use Rattle.literal.specs.Escapes.{reading_from}
use Rattle.literal.specs.Utf8.{valid_from}
use Rattle.lent.specs.Lists.{fit}
use Rattle.tree.specs.Labels.{blank_slot}
use Rattle.operators.specs.Groups.{grouped}
use Rattle.operators.specs.Levels.{level_of}
use Rattle.operators.specs.Merges.{tree_of}
use Rattle.operators.specs.Nodes.{node_of, merging_of}
use Rattle.grammar.specs.declared.entry.Entry.{Entry}
use Rattle.grammar.specs.Words.{Word}
use Rattle.grammar.specs.Grammar.{BE, B, T, spell-BE, spell-T}
use Rattle.grammar.specs.Grammar.BE.{boolean_expr}
use Rattle.grammar.specs.Grammar.Bs.{no-B, op-B}
use Rattle.grammar.specs.Grammar.B.{boolean_term}
use Rattle.grammar.specs.Grammar.InB.{true_lit, pattern, compare}
use Rattle.grammar.specs.Grammar.OptA.{no-A}
use Rattle.grammar.specs.Grammar.Es.{no-E}
use Rattle.grammar.specs.Grammar.E.{expr}
use Rattle.grammar.specs.Grammar.Ts.{no-T, op-T}
use Rattle.grammar.specs.Grammar.T.{term}
use Rattle.grammar.specs.Grammar.InT.{integer, string, parens, chain}
use Rattle.grammar.specs.Grammar.OptX.{no-X}
use Rattle.grammar.specs.Grammar.Ps.{no-P}
use Rattle.grammar.specs.Grammar.P.{primary}
use Rattle.grammar.specs.Grammar.InP.{name}
use Rattle.grammar.specs.Built.{tree-BE}
use Rattle.grammar.specs.Conditions.{Begins, Spelled}
use Rattle.grammar.specs.Tests.{is_damaged, is_misplaced, is_too_deep, token_refusal}
use Rattle.grammar.specs.Causes.{Minus, Why, damaged, bad_span, out_of_place, too_deep, token, minus, Cause, FirstCause}
use Rattle.grammar.specs.Extents.{gathered, visible}
use Rattle.grammar.specs.Answers.{Lent, Outcome, NoCause, caused, over, full, read, Comes, none_begins, in_fault, too_long, judged, taken, slots_of, text_in, no_entry}
use Rattle.grammar.specs.WorkedAnswers.{true_source, begins, term_begins, keyword, term_ends, ends, octal_source, octal_events, damaged_events, long_source, long_row, Leaves, WorkedAnswers}
use Rattle.grammar.proofs.Heads.{heads, tails, ap2}
use Rattle.grammar.proofs.Laws.{fronts_begin}
use Rattle.grammar.proofs.OneCause.{neither, some_none}

abbrev is_sign : Event → Bool
is_sign (Error m s) = false
is_sign (Begin k s) = false
is_sign (End k s) = false
is_sign (Token k s) = same k MINUS

-- whether an event behind a word is refused by some test, or is a minus sign
abbrev disturbs : List ℕ → Word → Event → Bool
disturbs source u e =
    is_damaged e || (is_misplaced (length source) u e || (is_too_deep u e || (is_some (token_refusal source e) || is_sign e)))

-- whether some event of a word behind u does
abbrev disturbed : List ℕ → Word → Word → Bool
disturbed source u [] = false
disturbed source u (e ∷ w) = disturbs source u e || disturbed source (u ++ (e ∷ [])) w

or_neither : (a b : Bool) → a || b ≡ false → (a ≡ false) × (b ≡ false)
or_neither true b h = cc
or_neither false b h = (refl, h)

is_none : (o : Option Refusal) → is_some o ≡ false → o ≡ None
is_none None h = refl
is_none (Some r) h = cc

abbrev Calm : List ℕ → Word → Event → Type 0
Calm source u e =
    (is_damaged e ≡ false) × (is_misplaced (length source) u e ≡ false) × (is_too_deep u e ≡ false) × (token_refusal source e ≡ None) × (is_sign e ≡ false)

calm : (source : List ℕ) (u : Word) (e : Event) → disturbs source u e ≡ false → Calm source u e
calm source u e h =
    let d = or_neither (is_damaged e) _ h in
    let m = or_neither (is_misplaced (length source) u e) _ d.1 in
    let t = or_neither (is_too_deep u e) _ m.1 in
    let k = or_neither (is_some (token_refusal source e)) (is_sign e) t.1 in
    (d.0, m.0, t.0, is_none (token_refusal source e) k.0, k.1)

calm_at : (source : List ℕ) (u x : Word) (e : Event) (w : Word) → disturbed source u (x ++ (e ∷ w)) ≡ false → Calm source (u ++ x) e
calm_at source u [] e w h =
    subst (λ v. Calm source v e) (sym (append-nil u)) (calm source u e (or_neither (disturbs source u e) _ h).0)
calm_at source u (a ∷ x) e w h =
    subst (λ v. Calm source v e) (append_assoc u (a ∷ []) x)
    (calm_at source (u ++ (a ∷ [])) x e w (or_neither (disturbs source u a) _ h).1)

-- an event of a word that stands in its front
in_front : (f b x : Word) (e : Event) (y : Word) → f ++ b ≡ x ++ (e ∷ y) → length x < length f → (w : Word) × (f ≡ x ++ (e ∷ w))
in_front [] b x e y h l = absurd (omega (arith, l))
in_front (a ∷ f) b [] e y h l = (f, ap (λ d. d ∷ f) (heads h))
in_front (a ∷ f) b (c ∷ x) e y h l =
    let p = in_front f b x e y (tails h) (omega (arith, l)) in (p.0, ap2 (λ d w. d ∷ w) (heads h) p.1)

-- what gives no cause
no_why : {source : List ℕ} {u : Word} {e : Event} {r : Refusal} → Calm source u e → Begins (u ++ (e ∷ [])) → (Minus source (u ++ (e ∷ [])) r → ⊥) → Why source u e r → ⊥
no_why c b n (damaged h) = neither h c.0
no_why c b n (bad_span h m) = neither m c.1
no_why c b n (out_of_place h m k) = k b
no_why c b n (too_deep h m k t) = neither t c.2
no_why c b n (token h m k t f) = some_none f c.3
no_why c b n (minus h m k t f x) = n x

-- a front that begins a condition, with no event that disturbs, has no cause in it
quiet : (source : List ℕ) (front back : Word) → Begins front → disturbed source [] front ≡ false → (j : ℕ) (q : Refusal) → j < length front → Cause source (front ++ back) j q → ⊥
quiet source front back b h j q l c =
    let p = in_front front back c.before c.event c.others c.split (subst (λ i. i < length front) (sym c.place) l) in
    let split = p.1 ∙ sym (append_assoc c.before (c.event ∷ []) p.0) in
    no_why (calm_at source [] c.before c.event p.0 (ap (disturbed source []) (sym p.1) ∙ h))
    (fronts_begin (c.before ++ (c.event ∷ [])) p.0 (subst Begins split b))
    (λ m. neither refl (calm_at source [] m.before (Token MINUS m.sign) (spell-T m.operand [] ++ p.0)
    (ap (disturbed source []) (sym (split ∙ ap (λ w. w ++ p.0) m.split ∙ append_assoc m.before _ p.0)) ∙ h)).4)
    c.why

-- and if it is the whole word, the word has none
quiet_all : (source : List ℕ) (v : Word) → Begins v → disturbed source [] v ≡ false → NoCause source v
quiet_all source v b h i r c =
    quiet source v [] b h i r (omega (arith, c.place, ap length c.split, length-append c.before (c.event ∷ c.others)))
    (subst (λ w. Cause source w i r) (sym (append-nil v)) c)

spelled_begins : {v : Word} → Spelled v → Begins v
spelled_begins {v} s = record { value = s.value; more = []; spelled = sym s.spelled ∙ sym (append-nil v) }

-- the word of `true`, and no cause in it
abbrev true_word : Word
true_word = begins ∷ term_begins ∷ keyword ∷ term_ends ∷ ends ∷ []

abbrev true_spelled : Spelled true_word
unfolding spell-BE
true_spelled =
    record { value = boolean_expr (span_of 0 5) (boolean_term (span_of 0 5) (true_lit (span_of 0 4)) (span_of 0 5)) no-B (span_of 0 5); spelled = refl }

true_no_cause : NoCause true_source true_word
unfolding token_refusal
true_no_cause = quiet_all true_source true_word (spelled_begins true_spelled) refl

-- nor in a front of it
open_no_cause : NoCause true_source (begins ∷ term_begins ∷ [])
unfolding token_refusal
open_no_cause =
    quiet_all true_source (begins ∷ term_begins ∷ []) (fronts_begin (begins ∷ term_begins ∷ []) _ (spelled_begins true_spelled)) refl

-- the long condition
abbrev named : ℕ → T
named from = term (span_of from (from + 1)) (chain (primary (span_of from (from + 1)) (name (span_of from (from + 1))) no-X (span_of from (from + 1))) no-P) (span_of from (from + 1))

abbrev long_left_term : B
unfolding level_of
long_left_term =
    boolean_term (span_of 0 11) (compare (expr (span_of 0 11) (named 0)
    (op-T (record { kind = SUB; is = tt }) (span_of 2 3)
    (term (span_of 4 11) (parens (span_of 4 5) (expr (span_of 5 10) (named 5) (op-T (record { kind = SUB; is = tt }) (span_of 7 8) (named 9) no-T) (span_of 5 10)) (span_of 10 11)) (span_of 4 11)) no-T) (span_of 0 11)) no-E) (span_of 0 11)

abbrev long_value : BE
unfolding level_of
long_value =
    boolean_expr (span_of 0 32) long_left_term
    (op-B (record { kind = OR_KW; is = tt }) (span_of 12 14)
    (boolean_term (span_of 15 20) (compare (expr (span_of 15 20) (term (span_of 15 20) (string (span_of 15 20)) (span_of 15 20)) no-T (span_of 15 20)) no-E) (span_of 15 20))
    (op-B (record { kind = CONTAINS_KW; is = tt }) (span_of 21 29) (boolean_term (span_of 30 32) (pattern (span_of 30 32) no-A) (span_of 30 32)) no-B)) (span_of 0 32)

abbrev long_spelled : Spelled long_row
unfolding spell-BE level_of
long_spelled = record { value = long_value; spelled = refl }

long_no_cause : NoCause long_source long_row
unfolding token_refusal valid_from reading_from
long_no_cause = quiet_all long_source long_row (spelled_begins long_spelled) refl

-- `0_o17`: nothing before the token gives cause
abbrev octal_front : Word
octal_front = begins ∷ term_begins ∷ Begin EXPR (span_of 0 5) ∷ Begin TERM (span_of 0 5) ∷ []

abbrev octal_back : Word
octal_back = End TERM (span_of 0 5) ∷ End EXPR (span_of 0 5) ∷ term_ends ∷ ends ∷ []

octal_begins : Begins (octal_front ++ (Token INTEGER_LIT (span_of 0 5) ∷ []))
unfolding spell-BE
octal_begins =
    record {
      value = boolean_expr (span_of 0 5) (boolean_term (span_of 0 5) (compare (expr (span_of 0 5) (term (span_of 0 5) (integer (span_of 0 5)) (span_of 0 5)) no-T (span_of 0 5)) no-E) (span_of 0 5)) no-B (span_of 0 5);
      more = octal_back;
      spelled = refl;
    }

abbrev octal_cause : FirstCause octal_source (visible octal_events) (InvalidInteger (span_of 0 5))
unfolding token_refusal valid_from
octal_cause =
    record {
      at = 4;
      cause = record {
        before = octal_front;
        event = Token INTEGER_LIT (span_of 0 5);
        others = octal_back;
        split = refl;
        place = refl;
        why = token refl refl octal_begins refl refl;
      };
      first = quiet octal_source octal_front (Token INTEGER_LIT (span_of 0 5) ∷ octal_back) (fronts_begin octal_front _ octal_begins) refl;
    }

-- the damaged node, and nothing before it
abbrev damaged_back : Word
damaged_back = keyword ∷ End ERROR (span_of 0 4) ∷ ends ∷ []

damaged_cause : FirstCause true_source (visible damaged_events) (Damaged (span_of 0 4))
unfolding token_refusal
damaged_cause =
    record {
      at = 1;
      cause = record {
        before = begins ∷ [];
        event = Begin ERROR (span_of 0 4);
        others = damaged_back;
        split = refl;
        place = refl;
        why = damaged refl;
      };
      first = quiet true_source (begins ∷ []) (Begin ERROR (span_of 0 4) ∷ damaged_back) (fronts_begin (begins ∷ []) _ (spelled_begins true_spelled)) refl;
    }

-- the answer that an outcome and its list of errors come to
answer : {source : List ℕ} {es : List Event} {c : Close} {n : Lent} {o : Outcome} {l : List Entry} → Comes source es c n o l → Leaves source es c n o (record { slots = fit blank_slot n.slots (slots_of o); text = fit 0 n.text (text_in o); row = fit blank n.row (gathered (taken es)); errors = fit no_entry n.errors l; count = length l; rest = drop (length (taken es)) es })
answer m =
    record { list = _; comes = m; slots_are = refl; text_is = refl; row_is = refl; errors_are = refl; count_is = refl; rest_is = refl }

pub worked_answers : WorkedAnswers
unfolding spell-BE tree-BE grouped tree_of level_of node_of merging_of token_refusal valid_from reading_from
worked_answers =
    record {
      long = answer (judged refl refl refl (read long_no_cause refl long_spelled refl));
      accepted_true = answer (judged refl refl refl (read true_no_cause refl true_spelled refl));
      full = answer (judged refl refl refl (full true_no_cause refl true_spelled refl));
      none_begins = answer (none_begins refl);
      too_long = answer (too_long refl refl refl);
      in_fault = answer (in_fault refl refl);
      over = answer (judged refl refl refl (over open_no_cause refl));
      damaged = answer (judged refl refl refl (caused damaged_cause));
      own_entry = answer (judged refl refl refl (caused octal_cause));
    }
