use Rattle.std.proofs.Common.{◌≡◌, ◌∷◌, refl}
use Rattle.syntax.specs.declared.span.Span.{Span}
use Rattle.syntax.specs.declared.event.Event.TheVariants.{End, Token}
use Rattle.kinds.specs.declared.kind.SyntaxKind.{SyntaxKind}
use Rattle.kinds.specs.declared.kind.SyntaxKind.TheVariants.{BOOLEAN_EXPR, BOOLEAN_TERM, R_PAREN, IN_KW, EXPR, TERM, R_BRACKET, DOT, PRIMARY_EXPR, FUNC_CALL, RANGE, QUANTIFIER, PERCENT, PATTERN_IDENT_TUPLE, ITERABLE, EXPR_TUPLE, FOR_EXPR, OF_KW, OF_EXPR, BOOLEAN_EXPR_TUPLE, WITH_EXPR, WITH_DECLS, WITH_DECL}
use Rattle.grammar.proofs.Heads.{heads, tails, begin_eq, end_eq, token_eq, operator_eq, apart, ap1, ap2, ap3, ap4, ap5, ap6, ap8}
use Rattle.grammar.specs.Words.{Word}
use Rattle.grammar.specs.Grammar.{BE, Bs, B, InB, OptA, Es, E, Ts, T, InT, OptR, OptX, Ps, P, InP, C, Args, BEs, R, Q, InQ, S, I, OptStar, Is, L, InL, CEs, F, InF, Vs, G, O, Items, W, Ds, D, spell-BE, spell-Bs, spell-B, spell-InB, spell-OptA, spell-Es, spell-E, spell-Ts, spell-T, spell-InT, spell-OptR, spell-OptX, spell-Ps, spell-P, spell-InP, spell-C, spell-Args, spell-BEs, spell-R, spell-Q, spell-InQ, spell-S, spell-I, spell-OptStar, spell-Is, spell-L, spell-InL, spell-CEs, spell-F, spell-InF, spell-Vs, spell-G, spell-O, spell-Items, spell-W, spell-Ds, spell-D}
use Rattle.grammar.specs.Grammar.BE.{boolean_expr}
use Rattle.grammar.specs.Grammar.Bs.{no-B, op-B}
use Rattle.grammar.specs.Grammar.B.{boolean_term}
use Rattle.grammar.specs.Grammar.InB.{true_lit, false_lit, not-B, defined-B, group, pattern, for-B, of-B, with-B, compare}
use Rattle.grammar.specs.Grammar.OptA.{no-A, at, in-A}
use Rattle.grammar.specs.Grammar.Es.{no-E, op-E}
use Rattle.grammar.specs.Grammar.E.{expr}
use Rattle.grammar.specs.Grammar.Ts.{no-T, op-T}
use Rattle.grammar.specs.Grammar.T.{term}
use Rattle.grammar.specs.Grammar.InT.{float, integer, string, regexp, filesize, entrypoint, count, offset, length, complement, minus, parens, chain}
use Rattle.grammar.specs.Grammar.OptR.{no-R, in-R}
use Rattle.grammar.specs.Grammar.OptX.{no-X, index}
use Rattle.grammar.specs.Grammar.Ps.{no-P, dot-P}
use Rattle.grammar.specs.Grammar.P.{primary}
use Rattle.grammar.specs.Grammar.InP.{name, call}
use Rattle.grammar.specs.Grammar.C.{func_call}
use Rattle.grammar.specs.Grammar.Args.{no_args, args}
use Rattle.grammar.specs.Grammar.BEs.{no-BE, comma-BE}
use Rattle.grammar.specs.Grammar.R.{range}
use Rattle.grammar.specs.Grammar.Q.{quantifier}
use Rattle.grammar.specs.Grammar.InQ.{all, any, none, percent, number}
use Rattle.grammar.specs.Grammar.S.{them, set}
use Rattle.grammar.specs.Grammar.I.{item}
use Rattle.grammar.specs.Grammar.OptStar.{exact, wildcard}
use Rattle.grammar.specs.Grammar.Is.{no-I, comma-I}
use Rattle.grammar.specs.Grammar.L.{iterable}
use Rattle.grammar.specs.Grammar.InL.{over_range, over_tuple, over_expr}
use Rattle.grammar.specs.Grammar.CEs.{no-CE, comma-E}
use Rattle.grammar.specs.Grammar.F.{for_expr}
use Rattle.grammar.specs.Grammar.InF.{for_of, for_in}
use Rattle.grammar.specs.Grammar.Vs.{no-V, comma-V}
use Rattle.grammar.specs.Grammar.G.{body}
use Rattle.grammar.specs.Grammar.O.{of_expr}
use Rattle.grammar.specs.Grammar.Items.{of_set, of_tuple}
use Rattle.grammar.specs.Grammar.W.{with_expr}
use Rattle.grammar.specs.Grammar.Ds.{no-D, comma-D}
use Rattle.grammar.specs.Grammar.D.{with_decl}

mutual
  unfolding spell-BE

  pub same-BE : (x y : BE) (k l : Word) → spell-BE x k ≡ spell-BE y l → (x ≡ y) × (k ≡ l)
  same-BE (boolean_expr s0 x1 x2 s3) (boolean_expr s0' x1' x2' s3') k l e =
      let h1 = same-B x1 x1' (spell-Bs x2 (End BOOLEAN_EXPR s3 ∷ (k))) (spell-Bs x2' (End BOOLEAN_EXPR s3' ∷ (l))) (tails (e)) in
      let h2 = same-Bs x2 x2' BOOLEAN_EXPR s3 s3' (k) (l) h1.1 in
      (ap4 boolean_expr (begin_eq (heads (e))) h1.0 h2.0 (end_eq (heads h2.1)), tails h2.1)

  pub same-Bs : (x y : Bs) (K : SyntaxKind) (s s' : Span) (k l : Word) → spell-Bs x (End K s ∷ k) ≡ spell-Bs y (End K s' ∷ l) → (x ≡ y) × (◌≡◌ {A = Word} (End K s ∷ k) (End K s' ∷ l))
  same-Bs no-B no-B K s s' k l e = (refl, e)
  same-Bs no-B (op-B o' s0' x1' x2') K s s' k l e = apart tt e
  same-Bs (op-B o s0 x1 x2) no-B K s s' k l e = apart tt e
  same-Bs (op-B o s0 x1 x2) (op-B o' s0' x1' x2') K s s' k l e =
      let h1 = same-B x1 x1' (spell-Bs x2 (End K s ∷ k)) (spell-Bs x2' (End K s' ∷ l)) (tails (e)) in
      let h2 = same-Bs x2 x2' K s s' k l h1.1 in
      (ap4 op-B (operator_eq (heads (e))) (token_eq (heads (e))) h1.0 h2.0, h2.1)

  pub same-B : (x y : B) (k l : Word) → spell-B x k ≡ spell-B y l → (x ≡ y) × (k ≡ l)
  same-B (boolean_term s0 x1 s2) (boolean_term s0' x1' s2') k l e =
      let h1 = same-InB x1 x1' BOOLEAN_TERM s2 s2' (k) (l) (tails (e)) in
      (ap3 boolean_term (begin_eq (heads (e))) h1.0 (end_eq (heads h1.1)), tails h1.1)

  pub same-InB : (x y : InB) (K : SyntaxKind) (s s' : Span) (k l : Word) → spell-InB x (End K s ∷ k) ≡ spell-InB y (End K s' ∷ l) → (x ≡ y) × (◌≡◌ {A = Word} (End K s ∷ k) (End K s' ∷ l))
  same-InB (true_lit s0) (true_lit s0') K s s' k l e = (ap1 true_lit (token_eq (heads (e))), tails (e))
  same-InB (true_lit s0) (false_lit s0') K s s' k l e = apart tt e
  same-InB (true_lit s0) (not-B s0' x1') K s s' k l e = apart tt e
  same-InB (true_lit s0) (defined-B s0' x1') K s s' k l e = apart tt e
  same-InB (true_lit s0) (group s0' x1' s2') K s s' k l e = apart tt e
  same-InB (true_lit s0) (pattern s0' x1') K s s' k l e = apart tt e
  same-InB (true_lit s0) (for-B (for_expr s0'h s1'h x2'h x3'h x4'h s5'h)) K s s' k l e = apart tt e
  same-InB (true_lit s0) (of-B (of_expr s0'h x1'h s2'h x3'h x4'h s5'h)) K s s' k l e = apart tt e
  same-InB (true_lit s0) (with-B (with_expr s0'h s1'h s2'h x3'h x4'h s5'h x6'h s7'h)) K s s' k l e = apart tt e
  same-InB (true_lit s0) (compare (expr s0'h x1'h x2'h s3'h) x1') K s s' k l e = apart tt e
  same-InB (false_lit s0) (true_lit s0') K s s' k l e = apart tt e
  same-InB (false_lit s0) (false_lit s0') K s s' k l e = (ap1 false_lit (token_eq (heads (e))), tails (e))
  same-InB (false_lit s0) (not-B s0' x1') K s s' k l e = apart tt e
  same-InB (false_lit s0) (defined-B s0' x1') K s s' k l e = apart tt e
  same-InB (false_lit s0) (group s0' x1' s2') K s s' k l e = apart tt e
  same-InB (false_lit s0) (pattern s0' x1') K s s' k l e = apart tt e
  same-InB (false_lit s0) (for-B (for_expr s0'h s1'h x2'h x3'h x4'h s5'h)) K s s' k l e = apart tt e
  same-InB (false_lit s0) (of-B (of_expr s0'h x1'h s2'h x3'h x4'h s5'h)) K s s' k l e = apart tt e
  same-InB (false_lit s0) (with-B (with_expr s0'h s1'h s2'h x3'h x4'h s5'h x6'h s7'h)) K s s' k l e = apart tt e
  same-InB (false_lit s0) (compare (expr s0'h x1'h x2'h s3'h) x1') K s s' k l e = apart tt e
  same-InB (not-B s0 x1) (true_lit s0') K s s' k l e = apart tt e
  same-InB (not-B s0 x1) (false_lit s0') K s s' k l e = apart tt e
  same-InB (not-B s0 x1) (not-B s0' x1') K s s' k l e =
      let h1 = same-B x1 x1' (End K s ∷ k) (End K s' ∷ l) (tails (e)) in
      (ap2 not-B (token_eq (heads (e))) h1.0, h1.1)
  same-InB (not-B s0 x1) (defined-B s0' x1') K s s' k l e = apart tt e
  same-InB (not-B s0 x1) (group s0' x1' s2') K s s' k l e = apart tt e
  same-InB (not-B s0 x1) (pattern s0' x1') K s s' k l e = apart tt e
  same-InB (not-B s0 x1) (for-B (for_expr s0'h s1'h x2'h x3'h x4'h s5'h)) K s s' k l e = apart tt e
  same-InB (not-B s0 x1) (of-B (of_expr s0'h x1'h s2'h x3'h x4'h s5'h)) K s s' k l e = apart tt e
  same-InB (not-B s0 x1) (with-B (with_expr s0'h s1'h s2'h x3'h x4'h s5'h x6'h s7'h)) K s s' k l e = apart tt e
  same-InB (not-B s0 x1) (compare (expr s0'h x1'h x2'h s3'h) x1') K s s' k l e = apart tt e
  same-InB (defined-B s0 x1) (true_lit s0') K s s' k l e = apart tt e
  same-InB (defined-B s0 x1) (false_lit s0') K s s' k l e = apart tt e
  same-InB (defined-B s0 x1) (not-B s0' x1') K s s' k l e = apart tt e
  same-InB (defined-B s0 x1) (defined-B s0' x1') K s s' k l e =
      let h1 = same-B x1 x1' (End K s ∷ k) (End K s' ∷ l) (tails (e)) in
      (ap2 defined-B (token_eq (heads (e))) h1.0, h1.1)
  same-InB (defined-B s0 x1) (group s0' x1' s2') K s s' k l e = apart tt e
  same-InB (defined-B s0 x1) (pattern s0' x1') K s s' k l e = apart tt e
  same-InB (defined-B s0 x1) (for-B (for_expr s0'h s1'h x2'h x3'h x4'h s5'h)) K s s' k l e = apart tt e
  same-InB (defined-B s0 x1) (of-B (of_expr s0'h x1'h s2'h x3'h x4'h s5'h)) K s s' k l e = apart tt e
  same-InB (defined-B s0 x1) (with-B (with_expr s0'h s1'h s2'h x3'h x4'h s5'h x6'h s7'h)) K s s' k l e = apart tt e
  same-InB (defined-B s0 x1) (compare (expr s0'h x1'h x2'h s3'h) x1') K s s' k l e = apart tt e
  same-InB (group s0 x1 s2) (true_lit s0') K s s' k l e = apart tt e
  same-InB (group s0 x1 s2) (false_lit s0') K s s' k l e = apart tt e
  same-InB (group s0 x1 s2) (not-B s0' x1') K s s' k l e = apart tt e
  same-InB (group s0 x1 s2) (defined-B s0' x1') K s s' k l e = apart tt e
  same-InB (group s0 x1 s2) (group s0' x1' s2') K s s' k l e =
      let h1 = same-BE x1 x1' (Token R_PAREN s2 ∷ (End K s ∷ k)) (Token R_PAREN s2' ∷ (End K s' ∷ l)) (tails (e)) in
      (ap3 group (token_eq (heads (e))) h1.0 (token_eq (heads h1.1)), tails h1.1)
  same-InB (group s0 x1 s2) (pattern s0' x1') K s s' k l e = apart tt e
  same-InB (group s0 x1 s2) (for-B (for_expr s0'h s1'h x2'h x3'h x4'h s5'h)) K s s' k l e = apart tt e
  same-InB (group s0 x1 s2) (of-B (of_expr s0'h x1'h s2'h x3'h x4'h s5'h)) K s s' k l e = apart tt e
  same-InB (group s0 x1 s2) (with-B (with_expr s0'h s1'h s2'h x3'h x4'h s5'h x6'h s7'h)) K s s' k l e = apart tt e
  same-InB (group s0 x1 s2) (compare (expr s0'h x1'h x2'h s3'h) x1') K s s' k l e = apart tt e
  same-InB (pattern s0 x1) (true_lit s0') K s s' k l e = apart tt e
  same-InB (pattern s0 x1) (false_lit s0') K s s' k l e = apart tt e
  same-InB (pattern s0 x1) (not-B s0' x1') K s s' k l e = apart tt e
  same-InB (pattern s0 x1) (defined-B s0' x1') K s s' k l e = apart tt e
  same-InB (pattern s0 x1) (group s0' x1' s2') K s s' k l e = apart tt e
  same-InB (pattern s0 x1) (pattern s0' x1') K s s' k l e =
      let h1 = same-OptA x1 x1' K s s' k l (tails (e)) in
      (ap2 pattern (token_eq (heads (e))) h1.0, h1.1)
  same-InB (pattern s0 x1) (for-B (for_expr s0'h s1'h x2'h x3'h x4'h s5'h)) K s s' k l e = apart tt e
  same-InB (pattern s0 x1) (of-B (of_expr s0'h x1'h s2'h x3'h x4'h s5'h)) K s s' k l e = apart tt e
  same-InB (pattern s0 x1) (with-B (with_expr s0'h s1'h s2'h x3'h x4'h s5'h x6'h s7'h)) K s s' k l e = apart tt e
  same-InB (pattern s0 x1) (compare (expr s0'h x1'h x2'h s3'h) x1') K s s' k l e = apart tt e
  same-InB (for-B (for_expr s0h s1h x2h x3h x4h s5h)) (true_lit s0') K s s' k l e = apart tt e
  same-InB (for-B (for_expr s0h s1h x2h x3h x4h s5h)) (false_lit s0') K s s' k l e = apart tt e
  same-InB (for-B (for_expr s0h s1h x2h x3h x4h s5h)) (not-B s0' x1') K s s' k l e = apart tt e
  same-InB (for-B (for_expr s0h s1h x2h x3h x4h s5h)) (defined-B s0' x1') K s s' k l e = apart tt e
  same-InB (for-B (for_expr s0h s1h x2h x3h x4h s5h)) (group s0' x1' s2') K s s' k l e = apart tt e
  same-InB (for-B (for_expr s0h s1h x2h x3h x4h s5h)) (pattern s0' x1') K s s' k l e = apart tt e
  same-InB (for-B x0) (for-B x0') K s s' k l e =
      let h0 = same-F x0 x0' (End K s ∷ k) (End K s' ∷ l) e in
      (ap1 for-B h0.0, h0.1)
  same-InB (for-B (for_expr s0h s1h x2h x3h x4h s5h)) (of-B (of_expr s0'h x1'h s2'h x3'h x4'h s5'h)) K s s' k l e = apart tt e
  same-InB (for-B (for_expr s0h s1h x2h x3h x4h s5h)) (with-B (with_expr s0'h s1'h s2'h x3'h x4'h s5'h x6'h s7'h)) K s s' k l e = apart tt e
  same-InB (for-B (for_expr s0h s1h x2h x3h x4h s5h)) (compare (expr s0'h x1'h x2'h s3'h) x1') K s s' k l e = apart tt e
  same-InB (of-B (of_expr s0h x1h s2h x3h x4h s5h)) (true_lit s0') K s s' k l e = apart tt e
  same-InB (of-B (of_expr s0h x1h s2h x3h x4h s5h)) (false_lit s0') K s s' k l e = apart tt e
  same-InB (of-B (of_expr s0h x1h s2h x3h x4h s5h)) (not-B s0' x1') K s s' k l e = apart tt e
  same-InB (of-B (of_expr s0h x1h s2h x3h x4h s5h)) (defined-B s0' x1') K s s' k l e = apart tt e
  same-InB (of-B (of_expr s0h x1h s2h x3h x4h s5h)) (group s0' x1' s2') K s s' k l e = apart tt e
  same-InB (of-B (of_expr s0h x1h s2h x3h x4h s5h)) (pattern s0' x1') K s s' k l e = apart tt e
  same-InB (of-B (of_expr s0h x1h s2h x3h x4h s5h)) (for-B (for_expr s0'h s1'h x2'h x3'h x4'h s5'h)) K s s' k l e = apart tt e
  same-InB (of-B x0) (of-B x0') K s s' k l e =
      let h0 = same-O x0 x0' (End K s ∷ k) (End K s' ∷ l) e in
      (ap1 of-B h0.0, h0.1)
  same-InB (of-B (of_expr s0h x1h s2h x3h x4h s5h)) (with-B (with_expr s0'h s1'h s2'h x3'h x4'h s5'h x6'h s7'h)) K s s' k l e = apart tt e
  same-InB (of-B (of_expr s0h x1h s2h x3h x4h s5h)) (compare (expr s0'h x1'h x2'h s3'h) x1') K s s' k l e = apart tt e
  same-InB (with-B (with_expr s0h s1h s2h x3h x4h s5h x6h s7h)) (true_lit s0') K s s' k l e = apart tt e
  same-InB (with-B (with_expr s0h s1h s2h x3h x4h s5h x6h s7h)) (false_lit s0') K s s' k l e = apart tt e
  same-InB (with-B (with_expr s0h s1h s2h x3h x4h s5h x6h s7h)) (not-B s0' x1') K s s' k l e = apart tt e
  same-InB (with-B (with_expr s0h s1h s2h x3h x4h s5h x6h s7h)) (defined-B s0' x1') K s s' k l e = apart tt e
  same-InB (with-B (with_expr s0h s1h s2h x3h x4h s5h x6h s7h)) (group s0' x1' s2') K s s' k l e = apart tt e
  same-InB (with-B (with_expr s0h s1h s2h x3h x4h s5h x6h s7h)) (pattern s0' x1') K s s' k l e = apart tt e
  same-InB (with-B (with_expr s0h s1h s2h x3h x4h s5h x6h s7h)) (for-B (for_expr s0'h s1'h x2'h x3'h x4'h s5'h)) K s s' k l e = apart tt e
  same-InB (with-B (with_expr s0h s1h s2h x3h x4h s5h x6h s7h)) (of-B (of_expr s0'h x1'h s2'h x3'h x4'h s5'h)) K s s' k l e = apart tt e
  same-InB (with-B x0) (with-B x0') K s s' k l e =
      let h0 = same-W x0 x0' (End K s ∷ k) (End K s' ∷ l) e in
      (ap1 with-B h0.0, h0.1)
  same-InB (with-B (with_expr s0h s1h s2h x3h x4h s5h x6h s7h)) (compare (expr s0'h x1'h x2'h s3'h) x1') K s s' k l e = apart tt e
  same-InB (compare (expr s0h x1h x2h s3h) x1) (true_lit s0') K s s' k l e = apart tt e
  same-InB (compare (expr s0h x1h x2h s3h) x1) (false_lit s0') K s s' k l e = apart tt e
  same-InB (compare (expr s0h x1h x2h s3h) x1) (not-B s0' x1') K s s' k l e = apart tt e
  same-InB (compare (expr s0h x1h x2h s3h) x1) (defined-B s0' x1') K s s' k l e = apart tt e
  same-InB (compare (expr s0h x1h x2h s3h) x1) (group s0' x1' s2') K s s' k l e = apart tt e
  same-InB (compare (expr s0h x1h x2h s3h) x1) (pattern s0' x1') K s s' k l e = apart tt e
  same-InB (compare (expr s0h x1h x2h s3h) x1) (for-B (for_expr s0'h s1'h x2'h x3'h x4'h s5'h)) K s s' k l e = apart tt e
  same-InB (compare (expr s0h x1h x2h s3h) x1) (of-B (of_expr s0'h x1'h s2'h x3'h x4'h s5'h)) K s s' k l e = apart tt e
  same-InB (compare (expr s0h x1h x2h s3h) x1) (with-B (with_expr s0'h s1'h s2'h x3'h x4'h s5'h x6'h s7'h)) K s s' k l e = apart tt e
  same-InB (compare x0 x1) (compare x0' x1') K s s' k l e =
      let h0 = same-E x0 x0' (spell-Es x1 (End K s ∷ k)) (spell-Es x1' (End K s' ∷ l)) e in
      let h1 = same-Es x1 x1' K s s' k l h0.1 in
      (ap2 compare h0.0 h1.0, h1.1)

  pub same-OptA : (x y : OptA) (K : SyntaxKind) (s s' : Span) (k l : Word) → spell-OptA x (End K s ∷ k) ≡ spell-OptA y (End K s' ∷ l) → (x ≡ y) × (◌≡◌ {A = Word} (End K s ∷ k) (End K s' ∷ l))
  same-OptA no-A no-A K s s' k l e = (refl, e)
  same-OptA no-A (at s0' x1') K s s' k l e = apart tt e
  same-OptA no-A (in-A s0' x1') K s s' k l e = apart tt e
  same-OptA (at s0 x1) no-A K s s' k l e = apart tt e
  same-OptA (at s0 x1) (at s0' x1') K s s' k l e =
      let h1 = same-E x1 x1' (End K s ∷ k) (End K s' ∷ l) (tails (e)) in
      (ap2 at (token_eq (heads (e))) h1.0, h1.1)
  same-OptA (at s0 x1) (in-A s0' x1') K s s' k l e = apart tt e
  same-OptA (in-A s0 x1) no-A K s s' k l e = apart tt e
  same-OptA (in-A s0 x1) (at s0' x1') K s s' k l e = apart tt e
  same-OptA (in-A s0 x1) (in-A s0' x1') K s s' k l e =
      let h1 = same-R x1 x1' (End K s ∷ k) (End K s' ∷ l) (tails (e)) in
      (ap2 in-A (token_eq (heads (e))) h1.0, h1.1)

  pub same-Es : (x y : Es) (K : SyntaxKind) (s s' : Span) (k l : Word) → spell-Es x (End K s ∷ k) ≡ spell-Es y (End K s' ∷ l) → (x ≡ y) × (◌≡◌ {A = Word} (End K s ∷ k) (End K s' ∷ l))
  same-Es no-E no-E K s s' k l e = (refl, e)
  same-Es no-E (op-E o' s0' x1' x2') K s s' k l e = apart tt e
  same-Es (op-E o s0 x1 x2) no-E K s s' k l e = apart tt e
  same-Es (op-E o s0 x1 x2) (op-E o' s0' x1' x2') K s s' k l e =
      let h1 = same-E x1 x1' (spell-Es x2 (End K s ∷ k)) (spell-Es x2' (End K s' ∷ l)) (tails (e)) in
      let h2 = same-Es x2 x2' K s s' k l h1.1 in
      (ap4 op-E (operator_eq (heads (e))) (token_eq (heads (e))) h1.0 h2.0, h2.1)

  pub same-E : (x y : E) (k l : Word) → spell-E x k ≡ spell-E y l → (x ≡ y) × (k ≡ l)
  same-E (expr s0 x1 x2 s3) (expr s0' x1' x2' s3') k l e =
      let h1 = same-T x1 x1' (spell-Ts x2 (End EXPR s3 ∷ (k))) (spell-Ts x2' (End EXPR s3' ∷ (l))) (tails (e)) in
      let h2 = same-Ts x2 x2' EXPR s3 s3' (k) (l) h1.1 in
      (ap4 expr (begin_eq (heads (e))) h1.0 h2.0 (end_eq (heads h2.1)), tails h2.1)

  pub same-Ts : (x y : Ts) (K : SyntaxKind) (s s' : Span) (k l : Word) → spell-Ts x (End K s ∷ k) ≡ spell-Ts y (End K s' ∷ l) → (x ≡ y) × (◌≡◌ {A = Word} (End K s ∷ k) (End K s' ∷ l))
  same-Ts no-T no-T K s s' k l e = (refl, e)
  same-Ts no-T (op-T o' s0' x1' x2') K s s' k l e = apart tt e
  same-Ts (op-T o s0 x1 x2) no-T K s s' k l e = apart tt e
  same-Ts (op-T o s0 x1 x2) (op-T o' s0' x1' x2') K s s' k l e =
      let h1 = same-T x1 x1' (spell-Ts x2 (End K s ∷ k)) (spell-Ts x2' (End K s' ∷ l)) (tails (e)) in
      let h2 = same-Ts x2 x2' K s s' k l h1.1 in
      (ap4 op-T (operator_eq (heads (e))) (token_eq (heads (e))) h1.0 h2.0, h2.1)

  pub same-T : (x y : T) (k l : Word) → spell-T x k ≡ spell-T y l → (x ≡ y) × (k ≡ l)
  same-T (term s0 x1 s2) (term s0' x1' s2') k l e =
      let h1 = same-InT x1 x1' TERM s2 s2' (k) (l) (tails (e)) in
      (ap3 term (begin_eq (heads (e))) h1.0 (end_eq (heads h1.1)), tails h1.1)

  pub same-InT : (x y : InT) (K : SyntaxKind) (s s' : Span) (k l : Word) → spell-InT x (End K s ∷ k) ≡ spell-InT y (End K s' ∷ l) → (x ≡ y) × (◌≡◌ {A = Word} (End K s ∷ k) (End K s' ∷ l))
  same-InT (float s0) (float s0') K s s' k l e = (ap1 float (token_eq (heads (e))), tails (e))
  same-InT (float s0) (integer s0') K s s' k l e = apart tt e
  same-InT (float s0) (string s0') K s s' k l e = apart tt e
  same-InT (float s0) (regexp s0') K s s' k l e = apart tt e
  same-InT (float s0) (filesize s0') K s s' k l e = apart tt e
  same-InT (float s0) (entrypoint s0') K s s' k l e = apart tt e
  same-InT (float s0) (count s0' x1') K s s' k l e = apart tt e
  same-InT (float s0) (offset s0' x1') K s s' k l e = apart tt e
  same-InT (float s0) (length s0' x1') K s s' k l e = apart tt e
  same-InT (float s0) (complement s0' x1') K s s' k l e = apart tt e
  same-InT (float s0) (minus s0' x1') K s s' k l e = apart tt e
  same-InT (float s0) (parens s0' x1' s2') K s s' k l e = apart tt e
  same-InT (float s0) (chain (primary s0'h x1'h x2'h s3'h) x1') K s s' k l e = apart tt e
  same-InT (integer s0) (float s0') K s s' k l e = apart tt e
  same-InT (integer s0) (integer s0') K s s' k l e = (ap1 integer (token_eq (heads (e))), tails (e))
  same-InT (integer s0) (string s0') K s s' k l e = apart tt e
  same-InT (integer s0) (regexp s0') K s s' k l e = apart tt e
  same-InT (integer s0) (filesize s0') K s s' k l e = apart tt e
  same-InT (integer s0) (entrypoint s0') K s s' k l e = apart tt e
  same-InT (integer s0) (count s0' x1') K s s' k l e = apart tt e
  same-InT (integer s0) (offset s0' x1') K s s' k l e = apart tt e
  same-InT (integer s0) (length s0' x1') K s s' k l e = apart tt e
  same-InT (integer s0) (complement s0' x1') K s s' k l e = apart tt e
  same-InT (integer s0) (minus s0' x1') K s s' k l e = apart tt e
  same-InT (integer s0) (parens s0' x1' s2') K s s' k l e = apart tt e
  same-InT (integer s0) (chain (primary s0'h x1'h x2'h s3'h) x1') K s s' k l e = apart tt e
  same-InT (string s0) (float s0') K s s' k l e = apart tt e
  same-InT (string s0) (integer s0') K s s' k l e = apart tt e
  same-InT (string s0) (string s0') K s s' k l e = (ap1 string (token_eq (heads (e))), tails (e))
  same-InT (string s0) (regexp s0') K s s' k l e = apart tt e
  same-InT (string s0) (filesize s0') K s s' k l e = apart tt e
  same-InT (string s0) (entrypoint s0') K s s' k l e = apart tt e
  same-InT (string s0) (count s0' x1') K s s' k l e = apart tt e
  same-InT (string s0) (offset s0' x1') K s s' k l e = apart tt e
  same-InT (string s0) (length s0' x1') K s s' k l e = apart tt e
  same-InT (string s0) (complement s0' x1') K s s' k l e = apart tt e
  same-InT (string s0) (minus s0' x1') K s s' k l e = apart tt e
  same-InT (string s0) (parens s0' x1' s2') K s s' k l e = apart tt e
  same-InT (string s0) (chain (primary s0'h x1'h x2'h s3'h) x1') K s s' k l e = apart tt e
  same-InT (regexp s0) (float s0') K s s' k l e = apart tt e
  same-InT (regexp s0) (integer s0') K s s' k l e = apart tt e
  same-InT (regexp s0) (string s0') K s s' k l e = apart tt e
  same-InT (regexp s0) (regexp s0') K s s' k l e = (ap1 regexp (token_eq (heads (e))), tails (e))
  same-InT (regexp s0) (filesize s0') K s s' k l e = apart tt e
  same-InT (regexp s0) (entrypoint s0') K s s' k l e = apart tt e
  same-InT (regexp s0) (count s0' x1') K s s' k l e = apart tt e
  same-InT (regexp s0) (offset s0' x1') K s s' k l e = apart tt e
  same-InT (regexp s0) (length s0' x1') K s s' k l e = apart tt e
  same-InT (regexp s0) (complement s0' x1') K s s' k l e = apart tt e
  same-InT (regexp s0) (minus s0' x1') K s s' k l e = apart tt e
  same-InT (regexp s0) (parens s0' x1' s2') K s s' k l e = apart tt e
  same-InT (regexp s0) (chain (primary s0'h x1'h x2'h s3'h) x1') K s s' k l e = apart tt e
  same-InT (filesize s0) (float s0') K s s' k l e = apart tt e
  same-InT (filesize s0) (integer s0') K s s' k l e = apart tt e
  same-InT (filesize s0) (string s0') K s s' k l e = apart tt e
  same-InT (filesize s0) (regexp s0') K s s' k l e = apart tt e
  same-InT (filesize s0) (filesize s0') K s s' k l e = (ap1 filesize (token_eq (heads (e))), tails (e))
  same-InT (filesize s0) (entrypoint s0') K s s' k l e = apart tt e
  same-InT (filesize s0) (count s0' x1') K s s' k l e = apart tt e
  same-InT (filesize s0) (offset s0' x1') K s s' k l e = apart tt e
  same-InT (filesize s0) (length s0' x1') K s s' k l e = apart tt e
  same-InT (filesize s0) (complement s0' x1') K s s' k l e = apart tt e
  same-InT (filesize s0) (minus s0' x1') K s s' k l e = apart tt e
  same-InT (filesize s0) (parens s0' x1' s2') K s s' k l e = apart tt e
  same-InT (filesize s0) (chain (primary s0'h x1'h x2'h s3'h) x1') K s s' k l e = apart tt e
  same-InT (entrypoint s0) (float s0') K s s' k l e = apart tt e
  same-InT (entrypoint s0) (integer s0') K s s' k l e = apart tt e
  same-InT (entrypoint s0) (string s0') K s s' k l e = apart tt e
  same-InT (entrypoint s0) (regexp s0') K s s' k l e = apart tt e
  same-InT (entrypoint s0) (filesize s0') K s s' k l e = apart tt e
  same-InT (entrypoint s0) (entrypoint s0') K s s' k l e = (ap1 entrypoint (token_eq (heads (e))), tails (e))
  same-InT (entrypoint s0) (count s0' x1') K s s' k l e = apart tt e
  same-InT (entrypoint s0) (offset s0' x1') K s s' k l e = apart tt e
  same-InT (entrypoint s0) (length s0' x1') K s s' k l e = apart tt e
  same-InT (entrypoint s0) (complement s0' x1') K s s' k l e = apart tt e
  same-InT (entrypoint s0) (minus s0' x1') K s s' k l e = apart tt e
  same-InT (entrypoint s0) (parens s0' x1' s2') K s s' k l e = apart tt e
  same-InT (entrypoint s0) (chain (primary s0'h x1'h x2'h s3'h) x1') K s s' k l e = apart tt e
  same-InT (count s0 x1) (float s0') K s s' k l e = apart tt e
  same-InT (count s0 x1) (integer s0') K s s' k l e = apart tt e
  same-InT (count s0 x1) (string s0') K s s' k l e = apart tt e
  same-InT (count s0 x1) (regexp s0') K s s' k l e = apart tt e
  same-InT (count s0 x1) (filesize s0') K s s' k l e = apart tt e
  same-InT (count s0 x1) (entrypoint s0') K s s' k l e = apart tt e
  same-InT (count s0 x1) (count s0' x1') K s s' k l e =
      let h1 = same-OptR x1 x1' K s s' k l (tails (e)) in
      (ap2 count (token_eq (heads (e))) h1.0, h1.1)
  same-InT (count s0 x1) (offset s0' x1') K s s' k l e = apart tt e
  same-InT (count s0 x1) (length s0' x1') K s s' k l e = apart tt e
  same-InT (count s0 x1) (complement s0' x1') K s s' k l e = apart tt e
  same-InT (count s0 x1) (minus s0' x1') K s s' k l e = apart tt e
  same-InT (count s0 x1) (parens s0' x1' s2') K s s' k l e = apart tt e
  same-InT (count s0 x1) (chain (primary s0'h x1'h x2'h s3'h) x1') K s s' k l e = apart tt e
  same-InT (offset s0 x1) (float s0') K s s' k l e = apart tt e
  same-InT (offset s0 x1) (integer s0') K s s' k l e = apart tt e
  same-InT (offset s0 x1) (string s0') K s s' k l e = apart tt e
  same-InT (offset s0 x1) (regexp s0') K s s' k l e = apart tt e
  same-InT (offset s0 x1) (filesize s0') K s s' k l e = apart tt e
  same-InT (offset s0 x1) (entrypoint s0') K s s' k l e = apart tt e
  same-InT (offset s0 x1) (count s0' x1') K s s' k l e = apart tt e
  same-InT (offset s0 x1) (offset s0' x1') K s s' k l e =
      let h1 = same-OptX x1 x1' K s s' k l (tails (e)) in
      (ap2 offset (token_eq (heads (e))) h1.0, h1.1)
  same-InT (offset s0 x1) (length s0' x1') K s s' k l e = apart tt e
  same-InT (offset s0 x1) (complement s0' x1') K s s' k l e = apart tt e
  same-InT (offset s0 x1) (minus s0' x1') K s s' k l e = apart tt e
  same-InT (offset s0 x1) (parens s0' x1' s2') K s s' k l e = apart tt e
  same-InT (offset s0 x1) (chain (primary s0'h x1'h x2'h s3'h) x1') K s s' k l e = apart tt e
  same-InT (length s0 x1) (float s0') K s s' k l e = apart tt e
  same-InT (length s0 x1) (integer s0') K s s' k l e = apart tt e
  same-InT (length s0 x1) (string s0') K s s' k l e = apart tt e
  same-InT (length s0 x1) (regexp s0') K s s' k l e = apart tt e
  same-InT (length s0 x1) (filesize s0') K s s' k l e = apart tt e
  same-InT (length s0 x1) (entrypoint s0') K s s' k l e = apart tt e
  same-InT (length s0 x1) (count s0' x1') K s s' k l e = apart tt e
  same-InT (length s0 x1) (offset s0' x1') K s s' k l e = apart tt e
  same-InT (length s0 x1) (length s0' x1') K s s' k l e =
      let h1 = same-OptX x1 x1' K s s' k l (tails (e)) in
      (ap2 length (token_eq (heads (e))) h1.0, h1.1)
  same-InT (length s0 x1) (complement s0' x1') K s s' k l e = apart tt e
  same-InT (length s0 x1) (minus s0' x1') K s s' k l e = apart tt e
  same-InT (length s0 x1) (parens s0' x1' s2') K s s' k l e = apart tt e
  same-InT (length s0 x1) (chain (primary s0'h x1'h x2'h s3'h) x1') K s s' k l e = apart tt e
  same-InT (complement s0 x1) (float s0') K s s' k l e = apart tt e
  same-InT (complement s0 x1) (integer s0') K s s' k l e = apart tt e
  same-InT (complement s0 x1) (string s0') K s s' k l e = apart tt e
  same-InT (complement s0 x1) (regexp s0') K s s' k l e = apart tt e
  same-InT (complement s0 x1) (filesize s0') K s s' k l e = apart tt e
  same-InT (complement s0 x1) (entrypoint s0') K s s' k l e = apart tt e
  same-InT (complement s0 x1) (count s0' x1') K s s' k l e = apart tt e
  same-InT (complement s0 x1) (offset s0' x1') K s s' k l e = apart tt e
  same-InT (complement s0 x1) (length s0' x1') K s s' k l e = apart tt e
  same-InT (complement s0 x1) (complement s0' x1') K s s' k l e =
      let h1 = same-T x1 x1' (End K s ∷ k) (End K s' ∷ l) (tails (e)) in
      (ap2 complement (token_eq (heads (e))) h1.0, h1.1)
  same-InT (complement s0 x1) (minus s0' x1') K s s' k l e = apart tt e
  same-InT (complement s0 x1) (parens s0' x1' s2') K s s' k l e = apart tt e
  same-InT (complement s0 x1) (chain (primary s0'h x1'h x2'h s3'h) x1') K s s' k l e = apart tt e
  same-InT (minus s0 x1) (float s0') K s s' k l e = apart tt e
  same-InT (minus s0 x1) (integer s0') K s s' k l e = apart tt e
  same-InT (minus s0 x1) (string s0') K s s' k l e = apart tt e
  same-InT (minus s0 x1) (regexp s0') K s s' k l e = apart tt e
  same-InT (minus s0 x1) (filesize s0') K s s' k l e = apart tt e
  same-InT (minus s0 x1) (entrypoint s0') K s s' k l e = apart tt e
  same-InT (minus s0 x1) (count s0' x1') K s s' k l e = apart tt e
  same-InT (minus s0 x1) (offset s0' x1') K s s' k l e = apart tt e
  same-InT (minus s0 x1) (length s0' x1') K s s' k l e = apart tt e
  same-InT (minus s0 x1) (complement s0' x1') K s s' k l e = apart tt e
  same-InT (minus s0 x1) (minus s0' x1') K s s' k l e =
      let h1 = same-T x1 x1' (End K s ∷ k) (End K s' ∷ l) (tails (e)) in
      (ap2 minus (token_eq (heads (e))) h1.0, h1.1)
  same-InT (minus s0 x1) (parens s0' x1' s2') K s s' k l e = apart tt e
  same-InT (minus s0 x1) (chain (primary s0'h x1'h x2'h s3'h) x1') K s s' k l e = apart tt e
  same-InT (parens s0 x1 s2) (float s0') K s s' k l e = apart tt e
  same-InT (parens s0 x1 s2) (integer s0') K s s' k l e = apart tt e
  same-InT (parens s0 x1 s2) (string s0') K s s' k l e = apart tt e
  same-InT (parens s0 x1 s2) (regexp s0') K s s' k l e = apart tt e
  same-InT (parens s0 x1 s2) (filesize s0') K s s' k l e = apart tt e
  same-InT (parens s0 x1 s2) (entrypoint s0') K s s' k l e = apart tt e
  same-InT (parens s0 x1 s2) (count s0' x1') K s s' k l e = apart tt e
  same-InT (parens s0 x1 s2) (offset s0' x1') K s s' k l e = apart tt e
  same-InT (parens s0 x1 s2) (length s0' x1') K s s' k l e = apart tt e
  same-InT (parens s0 x1 s2) (complement s0' x1') K s s' k l e = apart tt e
  same-InT (parens s0 x1 s2) (minus s0' x1') K s s' k l e = apart tt e
  same-InT (parens s0 x1 s2) (parens s0' x1' s2') K s s' k l e =
      let h1 = same-E x1 x1' (Token R_PAREN s2 ∷ (End K s ∷ k)) (Token R_PAREN s2' ∷ (End K s' ∷ l)) (tails (e)) in
      (ap3 parens (token_eq (heads (e))) h1.0 (token_eq (heads h1.1)), tails h1.1)
  same-InT (parens s0 x1 s2) (chain (primary s0'h x1'h x2'h s3'h) x1') K s s' k l e = apart tt e
  same-InT (chain (primary s0h x1h x2h s3h) x1) (float s0') K s s' k l e = apart tt e
  same-InT (chain (primary s0h x1h x2h s3h) x1) (integer s0') K s s' k l e = apart tt e
  same-InT (chain (primary s0h x1h x2h s3h) x1) (string s0') K s s' k l e = apart tt e
  same-InT (chain (primary s0h x1h x2h s3h) x1) (regexp s0') K s s' k l e = apart tt e
  same-InT (chain (primary s0h x1h x2h s3h) x1) (filesize s0') K s s' k l e = apart tt e
  same-InT (chain (primary s0h x1h x2h s3h) x1) (entrypoint s0') K s s' k l e = apart tt e
  same-InT (chain (primary s0h x1h x2h s3h) x1) (count s0' x1') K s s' k l e = apart tt e
  same-InT (chain (primary s0h x1h x2h s3h) x1) (offset s0' x1') K s s' k l e = apart tt e
  same-InT (chain (primary s0h x1h x2h s3h) x1) (length s0' x1') K s s' k l e = apart tt e
  same-InT (chain (primary s0h x1h x2h s3h) x1) (complement s0' x1') K s s' k l e = apart tt e
  same-InT (chain (primary s0h x1h x2h s3h) x1) (minus s0' x1') K s s' k l e = apart tt e
  same-InT (chain (primary s0h x1h x2h s3h) x1) (parens s0' x1' s2') K s s' k l e = apart tt e
  same-InT (chain x0 x1) (chain x0' x1') K s s' k l e =
      let h0 = same-P x0 x0' (spell-Ps x1 (End K s ∷ k)) (spell-Ps x1' (End K s' ∷ l)) e in
      let h1 = same-Ps x1 x1' K s s' k l h0.1 in
      (ap2 chain h0.0 h1.0, h1.1)

  pub same-OptR : (x y : OptR) (K : SyntaxKind) (s s' : Span) (k l : Word) → spell-OptR x (End K s ∷ k) ≡ spell-OptR y (End K s' ∷ l) → (x ≡ y) × (◌≡◌ {A = Word} (End K s ∷ k) (End K s' ∷ l))
  same-OptR no-R no-R K s s' k l e = (refl, e)
  same-OptR no-R (in-R s0' x1') K s s' k l e = apart tt e
  same-OptR (in-R s0 x1) no-R K s s' k l e = apart tt e
  same-OptR (in-R s0 x1) (in-R s0' x1') K s s' k l e =
      let h1 = same-R x1 x1' (End K s ∷ k) (End K s' ∷ l) (tails (e)) in
      (ap2 in-R (token_eq (heads (e))) h1.0, h1.1)

  pub same-OptX : (x y : OptX) (K : SyntaxKind) (s s' : Span) (k l : Word) → spell-OptX x (End K s ∷ k) ≡ spell-OptX y (End K s' ∷ l) → (x ≡ y) × (◌≡◌ {A = Word} (End K s ∷ k) (End K s' ∷ l))
  same-OptX no-X no-X K s s' k l e = (refl, e)
  same-OptX no-X (index s0' x1' s2') K s s' k l e = apart tt e
  same-OptX (index s0 x1 s2) no-X K s s' k l e = apart tt e
  same-OptX (index s0 x1 s2) (index s0' x1' s2') K s s' k l e =
      let h1 = same-E x1 x1' (Token R_BRACKET s2 ∷ (End K s ∷ k)) (Token R_BRACKET s2' ∷ (End K s' ∷ l)) (tails (e)) in
      (ap3 index (token_eq (heads (e))) h1.0 (token_eq (heads h1.1)), tails h1.1)

  pub same-Ps : (x y : Ps) (K : SyntaxKind) (s s' : Span) (k l : Word) → spell-Ps x (End K s ∷ k) ≡ spell-Ps y (End K s' ∷ l) → (x ≡ y) × (◌≡◌ {A = Word} (End K s ∷ k) (End K s' ∷ l))
  same-Ps no-P no-P K s s' k l e = (refl, e)
  same-Ps no-P (dot-P s0' x1' x2') K s s' k l e = apart tt e
  same-Ps (dot-P s0 x1 x2) no-P K s s' k l e = apart tt e
  same-Ps (dot-P s0 x1 x2) (dot-P s0' x1' x2') K s s' k l e =
      let h1 = same-P x1 x1' (spell-Ps x2 (End K s ∷ k)) (spell-Ps x2' (End K s' ∷ l)) (tails (e)) in
      let h2 = same-Ps x2 x2' K s s' k l h1.1 in
      (ap3 dot-P (token_eq (heads (e))) h1.0 h2.0, h2.1)

  pub same-P : (x y : P) (k l : Word) → spell-P x k ≡ spell-P y l → (x ≡ y) × (k ≡ l)
  same-P (primary s0 x1 x2 s3) (primary s0' x1' x2' s3') k l e =
      let h1 = same-InP x1 x1' (spell-OptX x2 (End PRIMARY_EXPR s3 ∷ (k))) (spell-OptX x2' (End PRIMARY_EXPR s3' ∷ (l))) (tails (e)) in
      let h2 = same-OptX x2 x2' PRIMARY_EXPR s3 s3' (k) (l) h1.1 in
      (ap4 primary (begin_eq (heads (e))) h1.0 h2.0 (end_eq (heads h2.1)), tails h2.1)

  pub same-InP : (x y : InP) (k l : Word) → spell-InP x k ≡ spell-InP y l → (x ≡ y) × (k ≡ l)
  same-InP (name s0) (name s0') k l e = (ap1 name (token_eq (heads (e))), tails (e))
  same-InP (name s0) (call (func_call s0'h s1'h s2'h x3'h s4'h s5'h)) k l e = apart tt e
  same-InP (call (func_call s0h s1h s2h x3h s4h s5h)) (name s0') k l e = apart tt e
  same-InP (call x0) (call x0') k l e =
      let h0 = same-C x0 x0' (k) (l) e in
      (ap1 call h0.0, h0.1)

  pub same-C : (x y : C) (k l : Word) → spell-C x k ≡ spell-C y l → (x ≡ y) × (k ≡ l)
  same-C (func_call s0 s1 s2 x3 s4 s5) (func_call s0' s1' s2' x3' s4' s5') k l e =
      let h3 = same-Args x3 x3' s4 s4' (End FUNC_CALL s5 ∷ (k)) (End FUNC_CALL s5' ∷ (l)) (tails (tails (tails (e)))) in
      (ap6 func_call (begin_eq (heads (e))) (token_eq (heads (tails (e)))) (token_eq (heads (tails (tails (e))))) h3.0 (token_eq (heads h3.1)) (end_eq (heads (tails h3.1))), tails (tails h3.1))

  pub same-Args : (x y : Args) (s s' : Span) (k l : Word) → spell-Args x (Token R_PAREN s ∷ k) ≡ spell-Args y (Token R_PAREN s' ∷ l) → (x ≡ y) × (◌≡◌ {A = Word} (Token R_PAREN s ∷ k) (Token R_PAREN s' ∷ l))
  same-Args no_args no_args s s' k l e = (refl, e)
  same-Args no_args (args (boolean_expr s0'h x1'h x2'h s3'h) x1') s s' k l e = apart tt e
  same-Args (args (boolean_expr s0h x1h x2h s3h) x1) no_args s s' k l e = apart tt e
  same-Args (args x0 x1) (args x0' x1') s s' k l e =
      let h0 = same-BE x0 x0' (spell-BEs x1 (Token R_PAREN s ∷ k)) (spell-BEs x1' (Token R_PAREN s' ∷ l)) e in
      let h1 = same-BEs x1 x1' s s' k l h0.1 in
      (ap2 args h0.0 h1.0, h1.1)

  pub same-BEs : (x y : BEs) (s s' : Span) (k l : Word) → spell-BEs x (Token R_PAREN s ∷ k) ≡ spell-BEs y (Token R_PAREN s' ∷ l) → (x ≡ y) × (◌≡◌ {A = Word} (Token R_PAREN s ∷ k) (Token R_PAREN s' ∷ l))
  same-BEs no-BE no-BE s s' k l e = (refl, e)
  same-BEs no-BE (comma-BE s0' x1' x2') s s' k l e = apart tt e
  same-BEs (comma-BE s0 x1 x2) no-BE s s' k l e = apart tt e
  same-BEs (comma-BE s0 x1 x2) (comma-BE s0' x1' x2') s s' k l e =
      let h1 = same-BE x1 x1' (spell-BEs x2 (Token R_PAREN s ∷ k)) (spell-BEs x2' (Token R_PAREN s' ∷ l)) (tails (e)) in
      let h2 = same-BEs x2 x2' s s' k l h1.1 in
      (ap3 comma-BE (token_eq (heads (e))) h1.0 h2.0, h2.1)

  pub same-R : (x y : R) (k l : Word) → spell-R x k ≡ spell-R y l → (x ≡ y) × (k ≡ l)
  same-R (range s0 s1 x2 s3 s4 x5 s6 s7) (range s0' s1' x2' s3' s4' x5' s6' s7') k l e =
      let h2 = same-E x2 x2' (Token DOT s3 ∷ (Token DOT s4 ∷ (spell-E x5 (Token R_PAREN s6 ∷ (End RANGE s7 ∷ (k)))))) (Token DOT s3' ∷ (Token DOT s4' ∷ (spell-E x5' (Token R_PAREN s6' ∷ (End RANGE s7' ∷ (l)))))) (tails (tails (e))) in
      let h5 = same-E x5 x5' (Token R_PAREN s6 ∷ (End RANGE s7 ∷ (k))) (Token R_PAREN s6' ∷ (End RANGE s7' ∷ (l))) (tails (tails h2.1)) in
      (ap8 range (begin_eq (heads (e))) (token_eq (heads (tails (e)))) h2.0 (token_eq (heads h2.1)) (token_eq (heads (tails h2.1))) h5.0 (token_eq (heads h5.1)) (end_eq (heads (tails h5.1))), tails (tails h5.1))

  pub same-Q : (x y : Q) (k l : Word) → spell-Q x k ≡ spell-Q y l → (x ≡ y) × (k ≡ l)
  same-Q (quantifier s0 x1 s2) (quantifier s0' x1' s2') k l e =
      let h1 = same-InQ x1 x1' (End QUANTIFIER s2 ∷ (k)) (End QUANTIFIER s2' ∷ (l)) (tails (e)) in
      (ap3 quantifier (begin_eq (heads (e))) h1.0 (end_eq (heads h1.1)), tails h1.1)

  pub same-InQ : (x y : InQ) (k l : Word) → spell-InQ x k ≡ spell-InQ y l → (x ≡ y) × (k ≡ l)
  same-InQ (all s0) (all s0') k l e = (ap1 all (token_eq (heads (e))), tails (e))
  same-InQ (all s0) (any s0') k l e = apart tt e
  same-InQ (all s0) (none s0') k l e = apart tt e
  same-InQ (all s0) (percent (term s0'h x1'h s2'h) s1') k l e = apart tt e
  same-InQ (all s0) (number (expr s0'h x1'h x2'h s3'h)) k l e = apart tt e
  same-InQ (any s0) (all s0') k l e = apart tt e
  same-InQ (any s0) (any s0') k l e = (ap1 any (token_eq (heads (e))), tails (e))
  same-InQ (any s0) (none s0') k l e = apart tt e
  same-InQ (any s0) (percent (term s0'h x1'h s2'h) s1') k l e = apart tt e
  same-InQ (any s0) (number (expr s0'h x1'h x2'h s3'h)) k l e = apart tt e
  same-InQ (none s0) (all s0') k l e = apart tt e
  same-InQ (none s0) (any s0') k l e = apart tt e
  same-InQ (none s0) (none s0') k l e = (ap1 none (token_eq (heads (e))), tails (e))
  same-InQ (none s0) (percent (term s0'h x1'h s2'h) s1') k l e = apart tt e
  same-InQ (none s0) (number (expr s0'h x1'h x2'h s3'h)) k l e = apart tt e
  same-InQ (percent (term s0h x1h s2h) s1) (all s0') k l e = apart tt e
  same-InQ (percent (term s0h x1h s2h) s1) (any s0') k l e = apart tt e
  same-InQ (percent (term s0h x1h s2h) s1) (none s0') k l e = apart tt e
  same-InQ (percent x0 s1) (percent x0' s1') k l e =
      let h0 = same-T x0 x0' (Token PERCENT s1 ∷ (k)) (Token PERCENT s1' ∷ (l)) e in
      (ap2 percent h0.0 (token_eq (heads h0.1)), tails h0.1)
  same-InQ (percent (term s0h x1h s2h) s1) (number (expr s0'h x1'h x2'h s3'h)) k l e = apart tt e
  same-InQ (number (expr s0h x1h x2h s3h)) (all s0') k l e = apart tt e
  same-InQ (number (expr s0h x1h x2h s3h)) (any s0') k l e = apart tt e
  same-InQ (number (expr s0h x1h x2h s3h)) (none s0') k l e = apart tt e
  same-InQ (number (expr s0h x1h x2h s3h)) (percent (term s0'h x1'h s2'h) s1') k l e = apart tt e
  same-InQ (number x0) (number x0') k l e =
      let h0 = same-E x0 x0' (k) (l) e in
      (ap1 number h0.0, h0.1)

  pub same-S : (x y : S) (k l : Word) → spell-S x k ≡ spell-S y l → (x ≡ y) × (k ≡ l)
  same-S (them s0) (them s0') k l e = (ap1 them (token_eq (heads (e))), tails (e))
  same-S (them s0) (set s0' s1' x2' x3' s4' s5') k l e = apart tt e
  same-S (set s0 s1 x2 x3 s4 s5) (them s0') k l e = apart tt e
  same-S (set s0 s1 x2 x3 s4 s5) (set s0' s1' x2' x3' s4' s5') k l e =
      let h2 = same-I x2 x2' x3 x3' s4 s4' (End PATTERN_IDENT_TUPLE s5 ∷ (k)) (End PATTERN_IDENT_TUPLE s5' ∷ (l)) (tails (tails (e))) in
      let h3 = same-Is x3 x3' s4 s4' (End PATTERN_IDENT_TUPLE s5 ∷ (k)) (End PATTERN_IDENT_TUPLE s5' ∷ (l)) h2.1 in
      (ap6 set (begin_eq (heads (e))) (token_eq (heads (tails (e)))) h2.0 h3.0 (token_eq (heads h3.1)) (end_eq (heads (tails h3.1))), tails (tails h3.1))

  pub same-I : (x y : I) (is js : Is) (s s' : Span) (k l : Word) → spell-I x (spell-Is is (Token R_PAREN s ∷ k)) ≡ spell-I y (spell-Is js (Token R_PAREN s' ∷ l)) → (x ≡ y) × (spell-Is is (Token R_PAREN s ∷ k) ≡ spell-Is js (Token R_PAREN s' ∷ l))
  same-I (item s0 x1) (item s0' x1') is js s s' k l e =
      let h1 = same-OptStar x1 x1' is js s s' k l (tails (e)) in
      (ap2 item (token_eq (heads (e))) h1.0, h1.1)

  pub same-OptStar : (x y : OptStar) (is js : Is) (s s' : Span) (k l : Word) → spell-OptStar x (spell-Is is (Token R_PAREN s ∷ k)) ≡ spell-OptStar y (spell-Is js (Token R_PAREN s' ∷ l)) → (x ≡ y) × (spell-Is is (Token R_PAREN s ∷ k) ≡ spell-Is js (Token R_PAREN s' ∷ l))
  same-OptStar exact exact is js s s' k l e = (refl, e)
  same-OptStar exact (wildcard s0') no-I js s s' k l e = apart tt e
  same-OptStar exact (wildcard s0') (comma-I cs ci cr) js s s' k l e = apart tt e
  same-OptStar (wildcard s0) exact is no-I s s' k l e = apart tt e
  same-OptStar (wildcard s0) exact is (comma-I cs ci cr) s s' k l e = apart tt e
  same-OptStar (wildcard s0) (wildcard s0') is js s s' k l e = (ap1 wildcard (token_eq (heads (e))), tails (e))

  pub same-Is : (x y : Is) (s s' : Span) (k l : Word) → spell-Is x (Token R_PAREN s ∷ k) ≡ spell-Is y (Token R_PAREN s' ∷ l) → (x ≡ y) × (◌≡◌ {A = Word} (Token R_PAREN s ∷ k) (Token R_PAREN s' ∷ l))
  same-Is no-I no-I s s' k l e = (refl, e)
  same-Is no-I (comma-I s0' x1' x2') s s' k l e = apart tt e
  same-Is (comma-I s0 x1 x2) no-I s s' k l e = apart tt e
  same-Is (comma-I s0 x1 x2) (comma-I s0' x1' x2') s s' k l e =
      let h1 = same-I x1 x1' x2 x2' s s' k l (tails (e)) in
      let h2 = same-Is x2 x2' s s' k l h1.1 in
      (ap3 comma-I (token_eq (heads (e))) h1.0 h2.0, h2.1)

  pub same-L : (x y : L) (k l : Word) → spell-L x k ≡ spell-L y l → (x ≡ y) × (k ≡ l)
  same-L (iterable s0 x1 s2) (iterable s0' x1' s2') k l e =
      let h1 = same-InL x1 x1' (End ITERABLE s2 ∷ (k)) (End ITERABLE s2' ∷ (l)) (tails (e)) in
      (ap3 iterable (begin_eq (heads (e))) h1.0 (end_eq (heads h1.1)), tails h1.1)

  pub same-InL : (x y : InL) (k l : Word) → spell-InL x k ≡ spell-InL y l → (x ≡ y) × (k ≡ l)
  same-InL (over_range x0) (over_range x0') k l e =
      let h0 = same-R x0 x0' (k) (l) e in
      (ap1 over_range h0.0, h0.1)
  same-InL (over_range (range s0h s1h x2h s3h s4h x5h s6h s7h)) (over_tuple s0' s1' x2' x3' s4' s5') k l e = apart tt e
  same-InL (over_range (range s0h s1h x2h s3h s4h x5h s6h s7h)) (over_expr (expr s0'h x1'h x2'h s3'h)) k l e = apart tt e
  same-InL (over_tuple s0 s1 x2 x3 s4 s5) (over_range (range s0'h s1'h x2'h s3'h s4'h x5'h s6'h s7'h)) k l e = apart tt e
  same-InL (over_tuple s0 s1 x2 x3 s4 s5) (over_tuple s0' s1' x2' x3' s4' s5') k l e =
      let h2 = same-E x2 x2' (spell-CEs x3 (Token R_PAREN s4 ∷ (End EXPR_TUPLE s5 ∷ (k)))) (spell-CEs x3' (Token R_PAREN s4' ∷ (End EXPR_TUPLE s5' ∷ (l)))) (tails (tails (e))) in
      let h3 = same-CEs x3 x3' s4 s4' (End EXPR_TUPLE s5 ∷ (k)) (End EXPR_TUPLE s5' ∷ (l)) h2.1 in
      (ap6 over_tuple (begin_eq (heads (e))) (token_eq (heads (tails (e)))) h2.0 h3.0 (token_eq (heads h3.1)) (end_eq (heads (tails h3.1))), tails (tails h3.1))
  same-InL (over_tuple s0 s1 x2 x3 s4 s5) (over_expr (expr s0'h x1'h x2'h s3'h)) k l e = apart tt e
  same-InL (over_expr (expr s0h x1h x2h s3h)) (over_range (range s0'h s1'h x2'h s3'h s4'h x5'h s6'h s7'h)) k l e = apart tt e
  same-InL (over_expr (expr s0h x1h x2h s3h)) (over_tuple s0' s1' x2' x3' s4' s5') k l e = apart tt e
  same-InL (over_expr x0) (over_expr x0') k l e =
      let h0 = same-E x0 x0' (k) (l) e in
      (ap1 over_expr h0.0, h0.1)

  pub same-CEs : (x y : CEs) (s s' : Span) (k l : Word) → spell-CEs x (Token R_PAREN s ∷ k) ≡ spell-CEs y (Token R_PAREN s' ∷ l) → (x ≡ y) × (◌≡◌ {A = Word} (Token R_PAREN s ∷ k) (Token R_PAREN s' ∷ l))
  same-CEs no-CE no-CE s s' k l e = (refl, e)
  same-CEs no-CE (comma-E s0' x1' x2') s s' k l e = apart tt e
  same-CEs (comma-E s0 x1 x2) no-CE s s' k l e = apart tt e
  same-CEs (comma-E s0 x1 x2) (comma-E s0' x1' x2') s s' k l e =
      let h1 = same-E x1 x1' (spell-CEs x2 (Token R_PAREN s ∷ k)) (spell-CEs x2' (Token R_PAREN s' ∷ l)) (tails (e)) in
      let h2 = same-CEs x2 x2' s s' k l h1.1 in
      (ap3 comma-E (token_eq (heads (e))) h1.0 h2.0, h2.1)

  pub same-F : (x y : F) (k l : Word) → spell-F x k ≡ spell-F y l → (x ≡ y) × (k ≡ l)
  same-F (for_expr s0 s1 x2 x3 x4 s5) (for_expr s0' s1' x2' x3' x4' s5') k l e =
      let h2 = same-Q x2 x2' (spell-InF x3 (spell-G x4 (End FOR_EXPR s5 ∷ (k)))) (spell-InF x3' (spell-G x4' (End FOR_EXPR s5' ∷ (l)))) (tails (tails (e))) in
      let h3 = same-InF x3 x3' (spell-G x4 (End FOR_EXPR s5 ∷ (k))) (spell-G x4' (End FOR_EXPR s5' ∷ (l))) h2.1 in
      let h4 = same-G x4 x4' (End FOR_EXPR s5 ∷ (k)) (End FOR_EXPR s5' ∷ (l)) h3.1 in
      (ap6 for_expr (begin_eq (heads (e))) (token_eq (heads (tails (e)))) h2.0 h3.0 h4.0 (end_eq (heads h4.1)), tails h4.1)

  pub same-InF : (x y : InF) (k l : Word) → spell-InF x k ≡ spell-InF y l → (x ≡ y) × (k ≡ l)
  same-InF (for_of s0 x1) (for_of s0' x1') k l e =
      let h1 = same-S x1 x1' (k) (l) (tails (e)) in
      (ap2 for_of (token_eq (heads (e))) h1.0, h1.1)
  same-InF (for_of s0 x1) (for_in s0' x1' s2' x3') k l e = apart tt e
  same-InF (for_in s0 x1 s2 x3) (for_of s0' x1') k l e = apart tt e
  same-InF (for_in s0 x1 s2 x3) (for_in s0' x1' s2' x3') k l e =
      let h1 = same-Vs x1 x1' s2 s2' (spell-L x3 (k)) (spell-L x3' (l)) (tails (e)) in
      let h3 = same-L x3 x3' (k) (l) (tails h1.1) in
      (ap4 for_in (token_eq (heads (e))) h1.0 (token_eq (heads h1.1)) h3.0, h3.1)

  pub same-Vs : (x y : Vs) (s s' : Span) (k l : Word) → spell-Vs x (Token IN_KW s ∷ k) ≡ spell-Vs y (Token IN_KW s' ∷ l) → (x ≡ y) × (◌≡◌ {A = Word} (Token IN_KW s ∷ k) (Token IN_KW s' ∷ l))
  same-Vs no-V no-V s s' k l e = (refl, e)
  same-Vs no-V (comma-V s0' s1' x2') s s' k l e = apart tt e
  same-Vs (comma-V s0 s1 x2) no-V s s' k l e = apart tt e
  same-Vs (comma-V s0 s1 x2) (comma-V s0' s1' x2') s s' k l e =
      let h2 = same-Vs x2 x2' s s' k l (tails (tails (e))) in
      (ap3 comma-V (token_eq (heads (e))) (token_eq (heads (tails (e)))) h2.0, h2.1)

  pub same-G : (x y : G) (k l : Word) → spell-G x k ≡ spell-G y l → (x ≡ y) × (k ≡ l)
  same-G (body s0 s1 x2 s3) (body s0' s1' x2' s3') k l e =
      let h2 = same-BE x2 x2' (Token R_PAREN s3 ∷ (k)) (Token R_PAREN s3' ∷ (l)) (tails (tails (e))) in
      (ap4 body (token_eq (heads (e))) (token_eq (heads (tails (e)))) h2.0 (token_eq (heads h2.1)), tails h2.1)

  pub same-O : (x y : O) (k l : Word) → spell-O x k ≡ spell-O y l → (x ≡ y) × (k ≡ l)
  same-O (of_expr s0 x1 s2 x3 x4 s5) (of_expr s0' x1' s2' x3' x4' s5') k l e =
      let h1 = same-Q x1 x1' (Token OF_KW s2 ∷ (spell-Items x3 (spell-OptA x4 (End OF_EXPR s5 ∷ (k))))) (Token OF_KW s2' ∷ (spell-Items x3' (spell-OptA x4' (End OF_EXPR s5' ∷ (l))))) (tails (e)) in
      let h3 = same-Items x3 x3' (spell-OptA x4 (End OF_EXPR s5 ∷ (k))) (spell-OptA x4' (End OF_EXPR s5' ∷ (l))) (tails h1.1) in
      let h4 = same-OptA x4 x4' OF_EXPR s5 s5' (k) (l) h3.1 in
      (ap6 of_expr (begin_eq (heads (e))) h1.0 (token_eq (heads h1.1)) h3.0 h4.0 (end_eq (heads h4.1)), tails h4.1)

  pub same-Items : (x y : Items) (k l : Word) → spell-Items x k ≡ spell-Items y l → (x ≡ y) × (k ≡ l)
  same-Items (of_set x0) (of_set x0') k l e =
      let h0 = same-S x0 x0' (k) (l) e in
      (ap1 of_set h0.0, h0.1)
  same-Items (of_set (them s0h)) (of_tuple s0' s1' x2' x3' s4' s5') k l e = apart tt e
  same-Items (of_set (set s0h s1h x2h x3h s4h s5h)) (of_tuple s0' s1' x2' x3' s4' s5') k l e = apart tt e
  same-Items (of_tuple s0 s1 x2 x3 s4 s5) (of_set (them s0'h)) k l e = apart tt e
  same-Items (of_tuple s0 s1 x2 x3 s4 s5) (of_set (set s0'h s1'h x2'h x3'h s4'h s5'h)) k l e = apart tt e
  same-Items (of_tuple s0 s1 x2 x3 s4 s5) (of_tuple s0' s1' x2' x3' s4' s5') k l e =
      let h2 = same-BE x2 x2' (spell-BEs x3 (Token R_PAREN s4 ∷ (End BOOLEAN_EXPR_TUPLE s5 ∷ (k)))) (spell-BEs x3' (Token R_PAREN s4' ∷ (End BOOLEAN_EXPR_TUPLE s5' ∷ (l)))) (tails (tails (e))) in
      let h3 = same-BEs x3 x3' s4 s4' (End BOOLEAN_EXPR_TUPLE s5 ∷ (k)) (End BOOLEAN_EXPR_TUPLE s5' ∷ (l)) h2.1 in
      (ap6 of_tuple (begin_eq (heads (e))) (token_eq (heads (tails (e)))) h2.0 h3.0 (token_eq (heads h3.1)) (end_eq (heads (tails h3.1))), tails (tails h3.1))

  pub same-W : (x y : W) (k l : Word) → spell-W x k ≡ spell-W y l → (x ≡ y) × (k ≡ l)
  same-W (with_expr s0 s1 s2 x3 x4 s5 x6 s7) (with_expr s0' s1' s2' x3' x4' s5' x6' s7') k l e =
      let h3 = same-D x3 x3' (spell-Ds x4 (End WITH_DECLS s5 ∷ (spell-G x6 (End WITH_EXPR s7 ∷ (k))))) (spell-Ds x4' (End WITH_DECLS s5' ∷ (spell-G x6' (End WITH_EXPR s7' ∷ (l))))) (tails (tails (tails (e)))) in
      let h4 = same-Ds x4 x4' WITH_DECLS s5 s5' (spell-G x6 (End WITH_EXPR s7 ∷ (k))) (spell-G x6' (End WITH_EXPR s7' ∷ (l))) h3.1 in
      let h6 = same-G x6 x6' (End WITH_EXPR s7 ∷ (k)) (End WITH_EXPR s7' ∷ (l)) (tails h4.1) in
      (ap8 with_expr (begin_eq (heads (e))) (token_eq (heads (tails (e)))) (begin_eq (heads (tails (tails (e))))) h3.0 h4.0 (end_eq (heads h4.1)) h6.0 (end_eq (heads h6.1)), tails h6.1)

  pub same-Ds : (x y : Ds) (K : SyntaxKind) (s s' : Span) (k l : Word) → spell-Ds x (End K s ∷ k) ≡ spell-Ds y (End K s' ∷ l) → (x ≡ y) × (◌≡◌ {A = Word} (End K s ∷ k) (End K s' ∷ l))
  same-Ds no-D no-D K s s' k l e = (refl, e)
  same-Ds no-D (comma-D s0' x1' x2') K s s' k l e = apart tt e
  same-Ds (comma-D s0 x1 x2) no-D K s s' k l e = apart tt e
  same-Ds (comma-D s0 x1 x2) (comma-D s0' x1' x2') K s s' k l e =
      let h1 = same-D x1 x1' (spell-Ds x2 (End K s ∷ k)) (spell-Ds x2' (End K s' ∷ l)) (tails (e)) in
      let h2 = same-Ds x2 x2' K s s' k l h1.1 in
      (ap3 comma-D (token_eq (heads (e))) h1.0 h2.0, h2.1)

  pub same-D : (x y : D) (k l : Word) → spell-D x k ≡ spell-D y l → (x ≡ y) × (k ≡ l)
  same-D (with_decl s0 s1 s2 x3 s4) (with_decl s0' s1' s2' x3' s4') k l e =
      let h3 = same-E x3 x3' (End WITH_DECL s4 ∷ (k)) (End WITH_DECL s4' ∷ (l)) (tails (tails (tails (e)))) in
      (ap5 with_decl (begin_eq (heads (e))) (token_eq (heads (tails (e)))) (token_eq (heads (tails (tails (e))))) h3.0 (end_eq (heads h3.1)), tails h3.1)
