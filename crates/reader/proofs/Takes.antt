-- Single events that are taken or refused.
use Rattle.std.proofs.Common.{◌≡◌, ℕ, ◌+◌, Bool, true, false, cond, List, [], ◌∷◌, ◌++◌, length, take, drop, IsErrAnd, Some, None, Option, Ok, Err, Result, sym, refl, ap, ◌∙◌, subst}
use borrow.Author.Tests.{both_ways}
use Rattle.std.proofs.lemmas.Bool.{or_parts, not-true}
use Rattle.std.proofs.lemmas.List.{append-nil, append_assoc}
use Rattle.kinds.specs.Kinds.{same}
use Rattle.kinds.specs.declared.kind.SyntaxKind.{SyntaxKind}
use Rattle.kinds.specs.declared.kind.SyntaxKind.TheVariants.{TERM, MINUS, IDENT, PATTERN_IDENT, PATTERN_COUNT, PATTERN_OFFSET, PATTERN_LENGTH, INTEGER_LIT, FLOAT_LIT, STRING_LIT, REGEXP}
use Rattle.syntax.specs.Events.{span_at}
use Rattle.syntax.specs.Spans.{span_of}
use Rattle.syntax.specs.declared.event.Event.{Event}
use Rattle.syntax.specs.declared.event.Event.TheVariants.{Begin, End, Token}
use Rattle.syntax.specs.declared.span.Span.{Span}
use Rattle.refusal.specs.declared.refusal.Refusal.{Refusal}
use Rattle.refusal.specs.declared.refusal.Refusal.TheVariants.{Damaged, BadSpan, OutOfPlace}
use Rattle.operators.specs.Levels.{among}
use Rattle.grammar.specs.Words.{Word}
use Rattle.grammar.specs.Extents.{visible, entries_in, entries_before}
use Rattle.grammar.specs.Tests.{is_damaged, last_end, opens, token_refusal, refusal_in, names}
use Rattle.literal.specs.Texts.{text_of}
use Rattle.grammar.specs.Causes.{Minus}
use Rattle.grammar.proofs.Ends.{term_ends}
use Rattle.reader.specs.declared.mark.Mark.{Mark}
use Rattle.reader.specs.declared.mark.Mark.TheVariants as mark
use Rattle.reader.specs.declared.reader.Reader.{Reader}
use Rattle.reader.specs.Symbols.{event, Fits, Viable, Stuck, Short}
use Rattle.reader.specs.Symbols.Sym.{one}
use Rattle.reader.specs.States.{State, misplaced, judged, step, Passes, Clears, NoMinus, Clear}
use Rattle.reader.specs.Contract.{Conf, conf, state_of, Kept, Blame, Read, Stops, Fresh, Failed, Shown, Peeked, Untaken, Refused, Took, Takes, tested, plain, settles, Finished}
use Rattle.reader.proofs.Lists.{nil_cons, heads, tails, snocs}
use Rattle.reader.proofs.Within.{Once}

pub sample : (m : Mark) → Viable (one m) []
sample m = record { value = span_of 0 0; rest = event m (span_of 0 0) ∷ []; whole = λ k. refl }

pub once_one : (m : Mark) → Once (one m)
once_one m = record { rest = λ a b k l e. tails e }

pub stuck_one : (m : Mark) (e : Event) → (Fits m e → ⊥) → Stuck (one m) [] e
stuck_one m e n a y k q = n (a, sym (heads q))

pub viable_one : (m : Mark) (e : Event) → Fits m e → Viable (one m) (e ∷ [])
viable_one m e f = record { value = f.0; rest = []; whole = λ k. ap (λ x. x ∷ k) (sym f.1) }

pub short_one : (m : Mark) → Short (one m) []
short_one m a k e = nil_cons (sym e)

pub kept_trans : {p q r : Reader} → Kept p q → Kept q r → Kept p r
kept_trans a b = record { row = b.row ∙ a.row; source = b.source ∙ a.source }

-- what is not taken is no event that the symbol of the mark goes on with
blamed : (m : Mark) (st : State) (v : Word) (r : Refusal) → Untaken (Fits m) st v r → Blame (one m) [] st v r
blamed m st (e ∷ v) r (Untaken.damaged a) = Blame.damaged a
blamed m st (e ∷ v) r (Untaken.bad_span a b) = Blame.bad_span a b
blamed m st (e ∷ v) r (Untaken.out_of_place a b n) = Blame.out_of_place a b (stuck_one m e n)
blamed m st (e ∷ v) r (Untaken.too_deep a b f d) = Blame.too_deep a b (viable_one m e f) d
blamed m st [] r Untaken.over = Blame.over (short_one m)

pub failed : (m : Mark) (r : Refusal) (p p' : Reader) → Refused (Fits m) p p' r → Failed (one m) r p p'
failed m r p p' q =
    record {
      place = (state_of p).past;
      fail =
          record {
            before = [];
            others = (conf p).rest;
            split = refl;
            behind = sym (append-nil (state_of p).past);
            viable = sample m;
            clear = tt;
            blame = blamed m (state_of p) (conf p).rest r q.why;
          };
      stops = q.stops;
    }

-- an event that is shown, and what follows it
abbrev pub behind : Reader → Event → Word
behind p e = e ∷ visible (drop (p.at + 1) p.row.now)

-- refused at what comes next
refused : (Fit : Event → Type 0) (r : Refusal) (p p₁ : Reader) (o : Option Event) (v : Word) → Peeked p p₁ o → (conf p₁).rest ≡ v → Untaken Fit (state_of p₁) v r → Refused Fit p p₁ r
refused Fit r p p₁ o v k e b =
    let here : Untaken Fit (state_of p₁) (conf p₁).rest r = subst (λ w. Untaken Fit (state_of p₁) w r) (sym e) b in
    record {
      same = k.same;
      why = subst (λ (c : Conf). Untaken Fit c.state c.rest r) k.same here;
      stops = subst (λ (c : Conf). Stops p₁ c.state.past) k.same k.stops;
    }

-- no event comes
pub over : {Y : Type 0} (m : Mark) (At : Y → Span → Type 0) (p p₁ : Reader) → Peeked p p₁ None → Takes m At p p₁ (Err (OutOfPlace (span_of 0 0)))
over m At p p₁ k =
    record { kept = k.kept; outcome = refused (Fits m) (OutOfPlace (span_of 0 0)) p p₁ None [] k k.shown Untaken.over }

-- the next event is refused
pub not_taken : {Y : Type 0} (m : Mark) (At : Y → Span → Type 0) (p p₁ : Reader) (e : Event) (r : Refusal) → Peeked p p₁ (Some e) → Untaken (Fits m) (state_of p₁) (behind p₁ e) r → Takes m At p p₁ (Err r)
not_taken m At p p₁ e r k b =
    record { kept = k.kept; outcome = refused (Fits m) r p p₁ (Some e) (behind p₁ e) k k.shown.front b }

-- something stands behind a condition
pub finished : {Y : Type 0} (p p₁ : Reader) (e : Event) (r : Refusal) → Peeked p p₁ (Some e) → Untaken (λ _. ⊥) (state_of p₁) (behind p₁ e) r → Finished {Y = Y} p p₁ (Err r)
finished p p₁ e r k b =
    record {
      kept = k.kept;
      same = k.same;
      told = (
        λ n. nil_cons (sym n ∙ ap (λ (c : Conf). c.rest) (sym k.same) ∙ k.shown.front),
        refused (λ _. ⊥) r p p₁ (Some e) (behind p₁ e) k k.shown.front b,
      );
    }

-- an event that is judged sound, and one that is not
pub sound : (st : State) (e : Event) (x : Unit {0}) → Ok x ≡ judged st e → (is_damaged e ≡ false) × (misplaced st e ≡ false)
sound st e x q = go (is_damaged e) (misplaced st e) q
  where
    go : (a b : Bool) → Ok x ≡ cond a (Err (Damaged (span_at e))) (cond b (Err (BadSpan (span_at e))) (Ok (tt {0}))) → (a ≡ false) × (b ≡ false)
    go true b q = cc
    go false true q = cc
    go false false q = (refl, refl)

pub unsound : (Fit : Event → Type 0) (st : State) (e : Event) (v : Word) (r : Refusal) → Err r ≡ judged st e → Untaken Fit st (e ∷ v) r
unsound Fit st e v r q = go (is_damaged e) (misplaced st e) refl refl q
  where
    go : (a b : Bool) → is_damaged e ≡ a → misplaced st e ≡ b → Err r ≡ cond a (Err (Damaged (span_at e))) (cond b (Err (BadSpan (span_at e))) (Ok (tt {0}))) → Untaken Fit st (e ∷ v) r
    go true b d m q = let s : Damaged (span_at e) ≡ r = cc in subst (λ x. Untaken Fit st (e ∷ v) x) s (Untaken.damaged d)
    go false true d m q = let s : BadSpan (span_at e) ≡ r = cc in subst (λ x. Untaken Fit st (e ∷ v) x) s (Untaken.bad_span d m)
    go false false d m q = cc

-- a refusal's place is the event's
pub at_place : {Fit : Event → Type 0} {st : State} {w : Word} {s : Span} (R : Span → Refusal) (e : Event) → s ≡ span_at e → Untaken Fit st w (R (span_at e)) → Untaken Fit st w (R s)
at_place {Fit} {st} {w} R e at b = subst (λ x. Untaken Fit st w (R x)) (sym at) b

-- an error is handed on
pub handed_on : {Y : Type 0} (P : Result Y Refusal → Type 0) (e : Refusal) → P (Err e) → (r : Result Y Refusal) → IsErrAnd r (λ x. x ≡ e) → P r
handed_on P e q (Err x) h = subst (λ y. P (Err y)) (sym h) q
handed_on P e q (Ok y) h = absurd h

-- the state behind an event that is counted
counted_state : (p p' : Reader) (e : Event) → Shown p e → Kept p p' → p'.at ≡ p.at + 1 → p'.last ≡ last_end p.last (e ∷ []) → p'.opens ≡ opens p.opens (e ∷ []) → state_of p' ≡ step (state_of p) e
counted_state p p' e s k a l o =
    let past : visible (take p'.at p'.row.now) ≡ (state_of p).past ++ (e ∷ []) =
    ap (λ n. visible (take n p'.row.now)) a ∙ ap (λ r. visible (take (p.at + 1) r.now)) k.row ∙ s.past in
    let source : p'.source.now ≡ p.source.now = ap (λ r. r.now) k.source in
    λ i. record { source = source i; past = past i; last = l i; opens = o i }

-- an event that fits and passes is taken
pub took : (m : Mark) (p p₁ p₂ : Reader) (e : Event) (f : Fits m e) → Peeked p p₁ (Some e) → Kept p₁ p₂ → p₂.at ≡ p₁.at + 1 → p₂.last ≡ last_end p₁.last (e ∷ []) → p₂.opens ≡ opens p₁.opens (e ∷ []) → Passes (state_of p₁) e → Took m f.0 p p₂
took m p p₁ p₂ e f z k a l o passes =
    let x = f.1 in
    let st = counted_state p₁ p₂ e z.shown k a l o in
    let S : Conf → Event → Type 0 = λ c d. Passes c.state d in
    record {
      split =
          ap (λ c. c.rest) (sym z.same) ∙ z.shown.front ∙ ap (λ d. d ∷ visible (drop (p₁.at + 1) p₁.row.now)) x
          ∙ ap (λ n. event m f.0 ∷ visible (drop n p₁.row.now)) (sym a)
          ∙ ap (λ r. event m f.0 ∷ visible (drop p₂.at r.now)) (sym k.row);
      state = st ∙ ap (λ (c : Conf). step c.state e) z.same ∙ ap (λ d. step (state_of p) d) x;
      passes = subst (λ d. S (conf p) d) x (subst (λ c. S c e) z.same passes);
      fresh = λ u d q. fresh u d q;
    }
  where
    errors_are : length (entries_in (take p₂.at p₂.row.now)) ≡ length (entries_before (length (state_of p₁).past) p₂.row.now)
    errors_are =
        ap (λ n. length (entries_in (take n p₂.row.now))) a ∙ ap (λ r. length (entries_in (take (p₁.at + 1) r.now))) k.row
        ∙ z.shown.errors ∙ z.stops ∙ ap (λ r. length (entries_before (length (state_of p₁).past) r.now)) (sym k.row)

    fresh : Fresh p₂
    fresh u d q =
        let st = counted_state p₁ p₂ e z.shown k a l o in
        let same_past : (state_of p₁).past ≡ u = (snocs (state_of p₁).past u e d (sym (ap (λ x. x.past) st) ∙ q)).0 in
        errors_are ∙ ap (λ w. length (entries_before (length w) p₂.row.now)) same_past

-- ---- what is tested of an event that was taken

-- a token that stands for nothing more than its kind
pub untested : (source : List ℕ) (k : SyntaxKind) (s : Span) → among k tested ≡ false → token_refusal source (Token k s) ≡ None
unfolding token_refusal
untested source k s e =
    let a = or_parts (same k IDENT) _ e in
    let b = or_parts (same k PATTERN_IDENT) _ a.1 in
    let c = or_parts (same k PATTERN_COUNT) _ b.1 in
    let d = or_parts (same k PATTERN_OFFSET) _ c.1 in
    let f = or_parts (same k PATTERN_LENGTH) _ d.1 in
    let g = or_parts (same k INTEGER_LIT) _ f.1 in
    let h = or_parts (same k FLOAT_LIT) _ g.1 in
    let i = or_parts (same k STRING_LIT) _ h.1 in
    let j = or_parts (same k REGEXP) _ i.1 in
    let none : among k names ≡ false = rw (a.0, b.0, c.0, d.0, f.0) in
    rw (none, g.0, h.0, i.0, j.0)

pub plain_none : (source : List ℕ) (m : Mark) (s : Span) → plain m ≡ true → token_refusal source (event m s) ≡ None
unfolding token_refusal
plain_none source (mark.Begin k) s e = refl
plain_none source (mark.End k) s e = refl
plain_none source (mark.Token k) s e = untested source k s (not-true _ e)

-- what a refused minus sign ends with
pub minus_ends : (source : List ℕ) (u : Word) (e : Event) (r : Refusal) → Minus source (u ++ (e ∷ [])) r → (s : Span) × (e ≡ End TERM s)
minus_ends source u e r m =
    let t = term_ends m.operand in
    let whole : u ++ (e ∷ []) ≡ (m.before ++ (Token MINUS m.sign ∷ t.0)) ++ (End TERM t.1 ∷ []) =
    m.split ∙ ap (λ v. m.before ++ (Token MINUS m.sign ∷ v)) t.2
    ∙ sym (append_assoc m.before (Token MINUS m.sign ∷ t.0) (End TERM t.1 ∷ [])) in
    (t.1, (snocs u _ e (End TERM t.1) whole).1)

pub no_minus : (st : State) (m : Mark) (s : Span) → settles m ≡ true → NoMinus st (event m s)
no_minus st (mark.Begin k) s e r x = let q = minus_ends st.source st.past (Begin k s) r x in let f = q.1 in cc
no_minus st (mark.Token k) s e r x = let q = minus_ends st.source st.past (Token k s) r x in let f = q.1 in cc
no_minus st (mark.End k) s e r x =
    let q = minus_ends st.source st.past (End k s) r x in
    let f = q.1 in
    let g : k ≡ TERM = cc in
    both_ways (same k TERM) (not-true _ e) (ap (λ j. same j TERM) g)

clear_one : (d : Bool) (st : State) (e : Event) → Clears st e → cond d (NoMinus st e) (Unit {0}) → Clear d st (e ∷ [])
clear_one d st e c n = (c, n, tt)

-- a plain event that was taken is read
pub took_read : (m : Mark) (d : Bool) (s : Span) (p p' : Reader) → plain m ≡ true → settles m ≡ d → Took m s p p' → Read d (one m) s (conf p) (conf p')
took_read m d s p p' e q t =
    record {
      word = event m s ∷ [];
      split = t.split;
      whole = λ k. refl;
      state = t.state;
      clear = clear_one d (state_of p) (event m s) (record { passes = t.passes; decodes = plain_none p.source.now m s e }) (minus_if d q);
    }
  where
    minus_if : (d : Bool) → settles m ≡ d → cond d (NoMinus (state_of p) (event m s)) (Unit {0})
    minus_if true q = no_minus (state_of p) m s q
    minus_if false q = tt

-- one that is decoded is read, and one that cannot be is refused
pub token_read : (k : SyntaxKind) (s : Span) (p p' : Reader) → token_refusal p.source.now (Token k s) ≡ None → Took (mark.Token k) s p p' → Read true (one (mark.Token k)) s (conf p) (conf p')
token_read k s p p' e t =
    record {
      word = Token k s ∷ [];
      split = t.split;
      whole = λ k. refl;
      state = t.state;
      clear = clear_one true (state_of p) (Token k s) (record { passes = t.passes; decodes = e }) (no_minus (state_of p) (mark.Token k) s refl);
    }

pub token_refused : (k : SyntaxKind) (s : Span) (r : Refusal) (p p' : Reader) → token_refusal p.source.now (Token k s) ≡ Some r → Took (mark.Token k) s p p' → Failed (one (mark.Token k)) r p p'
token_refused k s r p p' e t =
    record {
      place = (state_of p).past;
      fail =
          record {
            before = [];
            others = Token k s ∷ (conf p').rest;
            split = t.split;
            behind = sym (append-nil (state_of p).past);
            viable = sample (mark.Token k);
            clear = tt;
            blame = Blame.token t.passes (viable_one (mark.Token k) (Token k s) (s, refl)) e;
          };
      stops = t.fresh (state_of p).past (Token k s) (ap (λ x. x.past) t.state);
    }

pub fit_span : (m : Mark) (e : Event) (f : Fits m e) → span_at e ≡ f.0
fit_span (mark.Begin k) e f = ap span_at f.1
fit_span (mark.End k) e f = ap span_at f.1
fit_span (mark.Token k) e f = ap span_at f.1

-- what a name is tested for
pub name_refusal : (source source' : List ℕ) (k : SyntaxKind) (s s' : Span) (r : Result (List ℕ) Refusal) → among k names ≡ true → source' ≡ source → s' ≡ s → r ≡ text_of source' s' → token_refusal source (Token k s) ≡ refusal_in r
unfolding token_refusal
name_refusal source source' k s s' r h a b e =
    let t : text_of source s ≡ r = sym (e ∙ ap (λ x. text_of x s') a ∙ ap (λ x. text_of source x) b) in
    rw (h, t)
