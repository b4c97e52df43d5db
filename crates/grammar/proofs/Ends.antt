-- Where nodes end: how many Ends of a word have no Begin in it.
use Rattle.std.proofs.Common.{◌≡◌, ℕ, ◌+◌, ◌-◌, ◌<◌, ◌≤◌, [], ◌∷◌, ◌++◌, length, sym, refl, ap, ◌∙◌, inl, inr, arith, length-append}
use Rattle.std.proofs.lemmas.List.{append_assoc, append-nil}
use Rattle.std.proofs.lemmas.Bool.Decides.{leb_tells}
use Rattle.kinds.specs.declared.kind.SyntaxKind.{SyntaxKind}
use Rattle.kinds.specs.declared.kind.SyntaxKind.TheVariants.{MINUS, TERM, BOOLEAN_EXPR}
use Rattle.syntax.specs.declared.event.Event.TheVariants.{Error, Begin, End, Token}
use Rattle.syntax.specs.declared.span.Span.{Span}
use Rattle.grammar.specs.Words.{Word}
use Rattle.grammar.specs.Grammar.{BE, T, spell-BE, spell-T}
use Rattle.grammar.specs.Grammar.BE.{boolean_expr}
use Rattle.grammar.specs.Grammar.T.{term}
use Rattle.grammar.specs.Nests.{Nests, done, one, node}
use Rattle.grammar.specs.Tests.{opens}
use Rattle.grammar.proofs.Heads.{heads, tails, token_eq, apart, ap2}
use Rattle.grammar.proofs.Nested.{nests-BE, nests-B, nests-Bs, nests-T, nests-InT, joined}
use Rattle.grammar.proofs.Unique.{same-T}

abbrev unopened : Word → ℕ
unopened [] = 0
unopened (Error m s ∷ w) = unopened w
unopened (Begin k s ∷ w) = unopened w - 1
unopened (End k s ∷ w) = unopened w + 1
unopened (Token k s ∷ w) = unopened w

nests_unopened : {u w : Word} → Nests u w → unopened u ≡ unopened w
nests_unopened done = refl
nests_unopened (one m) = nests_unopened m
nests_unopened (node i m) = omega (arith, nests_unopened i, nests_unopened m)

nests_front : {u w : Word} → Nests u w → (x : Word) × (u ≡ x ++ w)
nests_front done = ([], refl)
nests_front (one {k = k} {s = s} m) = let f = nests_front m in (Token k s ∷ f.0, ap (λ v. Token k s ∷ v) f.1)
nests_front (node {k = k} {s = s} {t = t} {v = v} i m) =
    let f = nests_front i in
    let g = nests_front m in
    (Begin k s ∷ (f.0 ++ (End k t ∷ g.0)), ap (λ v. Begin k s ∷ v) (f.1 ∙ ap (λ v. f.0 ++ (End k t ∷ v)) g.1 ∙ sym (append_assoc f.0 _ _)))

-- of two fronts of a word the longer leaves a part of what the shorter leaves
part_of : (x a z y : Word) → x ++ a ≡ z ++ y → length y ≤ length a → (w : Word) × (a ≡ w ++ y) × (z ≡ x ++ w)
part_of [] a z y e l = (z, e, refl)
part_of (c ∷ x) a [] y e l = absurd (omega (arith, ap length e, length-append x a))
part_of (c ∷ x) a (d ∷ z) y e l =
    let p = part_of x a z y (tails e) l in
    (p.0, p.1, ap2 (λ e u. e ∷ u) (sym (heads e)) p.2)

pub opens-++ : (n : ℕ) (u w : Word) → opens n (u ++ w) ≡ opens (opens n u) w
opens-++ n [] w = refl
opens-++ n (Error m s ∷ u) w = opens-++ n u w
opens-++ n (Begin k s ∷ u) w = opens-++ (n + 1) u w
opens-++ n (End k s ∷ u) w = opens-++ (n - 1) u w
opens-++ n (Token k s ∷ u) w = opens-++ n u w

-- what a front of a nested word leaves open, the rest of it closes
closes : {u w : Word} → Nests u w → (n : ℕ) (z y : Word) → u ≡ z ++ y → length w ≤ length y → opens n z + unopened w ≡ n + unopened y
closes (done {v = v}) n [] y e l = omega (arith, ap unopened e)
closes (done {v = v}) n (c ∷ z) y e l = absurd (omega (arith, ap length e, length-append z y))
closes (one m) n [] y e l = omega (arith, ap unopened e, nests_unopened m)
closes (one {k = k} {s = s} m) n (c ∷ z) y e l =
    omega (arith, ap (λ d. opens n (d ∷ z)) (heads e), closes m n z y (tails e) l)
closes (node i m) n [] y e l = omega (arith, ap unopened e, nests_unopened i, nests_unopened m)
closes (node {k = k} {s = s} {t = t} {v = v} i m) n (c ∷ z) y e l =
    elim (leb_tells (length (End k t ∷ v)) (length y)) [
      | inl h ↦ omega (arith, ap (λ d. opens n (d ∷ z)) (heads e), closes i (n + 1) z y (tails e) h.1, nests_unopened m)
      | inr h ↦
          let f = nests_front i in
          let p = part_of (f.0 ++ (End k t ∷ [])) v z y (append_assoc f.0 (End k t ∷ []) v ∙ sym f.1 ∙ tails e) (omega (arith, h.1)) in
          let a : opens (n + 1) f.0 ≡ n + 1 = omega (arith, closes i (n + 1) f.0 (End k t ∷ v) f.1 (omega arith)) in
          let b : opens (n + 1) z ≡ opens n p.0 =
          ap (λ u. opens (n + 1) u) p.2 ∙ opens-++ (n + 1) (f.0 ++ (End k t ∷ [])) p.0
          ∙ ap (λ j. opens j p.0) (opens-++ (n + 1) f.0 (End k t ∷ []) ∙ ap (λ j. j - 1) a ∙ omega arith) in
          omega (arith, ap (λ d. opens n (d ∷ z)) (heads e), b, closes m n p.0 y p.1 l)
    ]

inner : {u w : Word} → Nests u w → (z y : Word) → u ≡ z ++ y → length w ≤ length y → unopened w ≤ unopened y
inner (done {v = v}) [] y e l = omega (arith, ap unopened e)
inner (done {v = v}) (c ∷ z) y e l = absurd (omega (arith, ap length e, length-append z y))
inner (one m) [] y e l = omega (arith, ap unopened e, nests_unopened m)
inner (one m) (c ∷ z) y e l = inner m z y (tails e) l
inner (node {k = k} {s = s} {t = t} {u = u} {v = v} i m) [] y e l = omega (arith, ap unopened e, nests_unopened i, nests_unopened m)
inner (node {k = k} {s = s} {t = t} {u = u} {v = v} i m) (c ∷ z) y e l =
    elim (leb_tells (length (End k t ∷ v)) (length y)) [
      | inl h ↦ omega (arith, inner i z y (tails e) h.1, nests_unopened m)
      | inr h ↦
          let f = nests_front i in
          let p = part_of (f.0 ++ (End k t ∷ [])) v z y (append_assoc f.0 (End k t ∷ []) v ∙ sym f.1 ∙ tails e) (omega (arith, h.1)) in
          inner m p.0 y p.1 l
    ]

-- inside a node some End is left to come
inside : (n : ℕ) (k : SyntaxKind) (s : Span) (u : Word) → Nests u (End k s ∷ []) → (z y : Word) → u ≡ z ++ y → 0 < length y → 0 < unopened y
inside n k s u m z y e l = omega (arith, inner m z y e (omega arith))

not_inside : (t t' : T) (z : Word) (s' : Span) → spell-T t [] ≡ z ++ (Token MINUS s' ∷ spell-T t' []) → ⊥
unfolding spell-T
not_inside (term s0 x s1) t' [] s' e = apart tt e
not_inside (term s0 x s1) t' (c ∷ z) s' e =
    omega (arith, inner (nests-InT x (End TERM s1 ∷ [])) z (Token MINUS s' ∷ spell-T t' []) (tails e) (omega arith), nests_unopened (nests-T t' []))

-- a word ends with at most one minus sign and its operand
pub minus_same : (v v' : Word) (s s' : Span) (t t' : T) → v ++ (Token MINUS s ∷ spell-T t []) ≡ v' ++ (Token MINUS s' ∷ spell-T t' []) → (s ≡ s') × (t ≡ t')
minus_same [] [] s s' t t' e = (token_eq (heads e), (same-T t t' [] [] (tails e)).0)
minus_same [] (b ∷ v') s s' t t' e = absurd (not_inside t t' v' s' (tails e))
minus_same (a ∷ v) [] s s' t t' e = absurd (not_inside t' t v s (sym (tails e)))
minus_same (a ∷ v) (b ∷ v') s s' t t' e = minus_same v v' s s' t t' (tails e)

-- a front of a condition that leaves nothing open is all of it
pub whole_front : (b : BE) (v more : Word) → spell-BE b [] ≡ v ++ more → (v ≡ [] → ⊥) → opens 0 v ≡ 0 → more ≡ []
unfolding spell-BE
whole_front b v [] e n o = refl
whole_front b [] (a ∷ more) e n o = absurd (n refl)
whole_front (boolean_expr s0 x1 x2 s1) (c ∷ v) (a ∷ more) e n o =
    let all = closes (nests-BE (boolean_expr s0 x1 x2 s1) []) 0 (c ∷ v) (a ∷ more) e (omega arith) in
    let some = inside 0 BOOLEAN_EXPR s1 _ (joined (nests-B x1 _) (nests-Bs x2 _)) v (a ∷ more) (tails e) (omega arith) in
    absurd (omega (arith, all, some))

-- a whole condition leaves no node open
pub whole_closes : (b : BE) → opens 0 (spell-BE b []) ≡ 0
whole_closes b = omega (arith, closes (nests-BE b []) 0 (spell-BE b []) [] (sym (append-nil (spell-BE b []))) (omega arith))

-- a term ends with its End
pub term_ends : (t : T) → (u : Word) × (s : Span) × (spell-T t [] ≡ u ++ (End TERM s ∷ []))
unfolding spell-T
term_ends (term s0 x s1) =
    let f = nests_front (nests-InT x (End TERM s1 ∷ [])) in
    (Begin TERM s0 ∷ f.0, s1, ap (λ v. Begin TERM s0 ∷ v) f.1)

term_long : (t : T) → 1 ≤ length (spell-T t [])
unfolding spell-T
term_long (term s0 x s1) = omega arith

-- a term that ends a term is that term
term_suffix : (v : Word) (t t' : T) → spell-T t [] ≡ v ++ spell-T t' [] → (t ≡ t') × (v ≡ [])
unfolding spell-T
term_suffix [] t t' e = ((same-T t t' [] [] e).0, refl)
term_suffix (c ∷ v) (term s0 x s1) t' e =
    absurd (omega (arith, inner (nests-InT x (End TERM s1 ∷ [])) v (spell-T t' []) (tails e) (omega (arith, term_long t')), nests_unopened (nests-T t' [])))

-- what ends with a minus sign and a term ends with no other term
pub minus_term : (v v' : Word) (s : Span) (t t' : T) → v ++ (Token MINUS s ∷ spell-T t []) ≡ v' ++ spell-T t' [] → (t ≡ t') × (v' ≡ v ++ (Token MINUS s ∷ []))
unfolding spell-T
minus_term [] [] s t (term s0 x s1) e = apart tt e
minus_term [] (b ∷ v') s t t' e =
    let r = term_suffix v' t t' (tails e) in
    (r.0, ap2 (λ d w. d ∷ w) (sym (heads e)) r.1)
minus_term (a ∷ v) [] s t (term s0 x s1) e =
    absurd (omega (arith, inner (nests-InT x (End TERM s1 ∷ [])) v (Token MINUS s ∷ spell-T t []) (sym (tails e)) (omega arith), nests_unopened (nests-T t [])))
minus_term (a ∷ v) (b ∷ v') s t t' e =
    let r = minus_term v v' s t t' (tails e) in
    (r.0, ap2 (λ d w. d ∷ w) (sym (heads e)) r.1)
