-- Each event of a condition is one of a word: no Error event, not damaged, no boundary and no trivia.
use Rattle.std.proofs.Common.{◌≡◌, Bool, true, false, ◌||◌, T as IsTrue, [], ◌∷◌, ◌++◌, is_some, refl, ap, ◌∙◌, subst, eqb-true}
use Rattle.std.proofs.lemmas.Bool.{or_from, or_parts}
use Rattle.kinds.specs.Kinds.{number_of, same}
use Rattle.kinds.specs.declared.kind.SyntaxKind.{SyntaxKind}
use Rattle.kinds.specs.declared.kind.SyntaxKind.TheVariants.{COMMENT, WHITESPACE, NEWLINE}
use Rattle.kinds.proofs.Inverse.{number_same}
use Rattle.operators.specs.Levels.{level_of}
use Rattle.syntax.specs.Events.{is_trivia, is_boundary}
use Rattle.syntax.specs.declared.event.Event.{Event}
use Rattle.syntax.specs.declared.event.Event.TheVariants.{Error, Begin, End, Token}
use Rattle.syntax.specs.declared.span.Span.{Span}
use Rattle.grammar.specs.Words.{Word, Operator}
use Rattle.grammar.specs.Grammar.{BE, Bs, B, InB, OptA, Es, E, Ts, T, InT, OptR, OptX, Ps, P, InP, C, Args, BEs, R, Q, InQ, S, I, OptStar, Is, L, InL, CEs, F, InF, Vs, G, O, Items, W, Ds, D, spell-BE, spell-Bs, spell-B, spell-InB, spell-OptA, spell-Es, spell-E, spell-Ts, spell-T, spell-InT, spell-OptR, spell-OptX, spell-Ps, spell-P, spell-InP, spell-C, spell-Args, spell-BEs, spell-R, spell-Q, spell-InQ, spell-S, spell-I, spell-OptStar, spell-Is, spell-L, spell-InL, spell-CEs, spell-F, spell-InF, spell-Vs, spell-G, spell-O, spell-Items, spell-W, spell-Ds, spell-D}
use Rattle.grammar.specs.Grammar.BE.{boolean_expr}
use Rattle.grammar.specs.Grammar.Bs.{no-B, op-B}
use Rattle.grammar.specs.Grammar.B.{boolean_term}
use Rattle.grammar.specs.Grammar.InB.{true_lit, false_lit, not-B, defined-B, group, pattern, for-B, of-B, with-B, compare}
use Rattle.grammar.specs.Grammar.OptA.{no-A, at, in-A}
use Rattle.grammar.specs.Grammar.Es.{no-E, op-E}
use Rattle.grammar.specs.Grammar.E.{expr}
use Rattle.grammar.specs.Grammar.Ts.{no-T, op-T}
use Rattle.grammar.specs.Grammar.T.{term}
use Rattle.grammar.specs.Grammar.InT.{float, integer, string, regexp, filesize, entrypoint, count, offset, length, complement, minus, parens, chain}
use Rattle.grammar.specs.Grammar.OptR.{no-R, in-R}
use Rattle.grammar.specs.Grammar.OptX.{no-X, index}
use Rattle.grammar.specs.Grammar.Ps.{no-P, dot-P}
use Rattle.grammar.specs.Grammar.P.{primary}
use Rattle.grammar.specs.Grammar.InP.{name, call}
use Rattle.grammar.specs.Grammar.C.{func_call}
use Rattle.grammar.specs.Grammar.Args.{no_args, args}
use Rattle.grammar.specs.Grammar.BEs.{no-BE, comma-BE}
use Rattle.grammar.specs.Grammar.R.{range}
use Rattle.grammar.specs.Grammar.Q.{quantifier}
use Rattle.grammar.specs.Grammar.InQ.{all, any, none, percent, number}
use Rattle.grammar.specs.Grammar.S.{them, set}
use Rattle.grammar.specs.Grammar.I.{item}
use Rattle.grammar.specs.Grammar.OptStar.{exact, wildcard}
use Rattle.grammar.specs.Grammar.Is.{no-I, comma-I}
use Rattle.grammar.specs.Grammar.L.{iterable}
use Rattle.grammar.specs.Grammar.InL.{over_range, over_tuple, over_expr}
use Rattle.grammar.specs.Grammar.CEs.{no-CE, comma-E}
use Rattle.grammar.specs.Grammar.F.{for_expr}
use Rattle.grammar.specs.Grammar.InF.{for_of, for_in}
use Rattle.grammar.specs.Grammar.Vs.{no-V, comma-V}
use Rattle.grammar.specs.Grammar.G.{body}
use Rattle.grammar.specs.Grammar.O.{of_expr}
use Rattle.grammar.specs.Grammar.Items.{of_set, of_tuple}
use Rattle.grammar.specs.Grammar.W.{with_expr}
use Rattle.grammar.specs.Grammar.Ds.{no-D, comma-D}
use Rattle.grammar.specs.Grammar.D.{with_decl}
use Rattle.grammar.specs.Tests.{is_damaged}

-- an event that stands in no condition's word
abbrev pub stray : Event → Bool
stray (Error m s) = true
stray (Begin k s) = is_damaged (Begin k s) || is_boundary (Begin k s)
stray (End k s) = is_boundary (End k s)
stray (Token k s) = is_trivia (Token k s)

pub not_damaged : (e : Event) → stray e ≡ false → is_damaged e ≡ false
not_damaged (Error m s) h = refl
not_damaged (Begin k s) h = (or_parts (is_damaged (Begin k s)) _ h).0
not_damaged (End k s) h = refl
not_damaged (Token k s) h = refl

pub no_boundary : (e : Event) → stray e ≡ false → is_boundary e ≡ false
no_boundary (Error m s) h = refl
no_boundary (Begin k s) h = (or_parts (is_damaged (Begin k s)) _ h).1
no_boundary (End k s) h = h
no_boundary (Token k s) h = refl

-- a kind that has a level is none that has none
apart_from : (k t : SyntaxKind) → IsTrue (is_some (level_of k)) → is_some (level_of t) ≡ false → same k t ≡ false
apart_from k t h n = go (same k t) refl
  where
    go : (b : Bool) → same k t ≡ b → b ≡ false
    go false e = refl
    go true e =
        absurd (subst IsTrue (ap (λ x. is_some (level_of x)) (number_same k t (eqb-true (number_of k) (number_of t) e)) ∙ n) h)

operator_own : (o : Operator) (s : Span) → stray (Token o.kind s) ≡ false
unfolding level_of
operator_own o s =
    or_from (same o.kind WHITESPACE) (same o.kind NEWLINE || same o.kind COMMENT) (apart_from o.kind WHITESPACE o.is refl)
    (or_from (same o.kind NEWLINE) (same o.kind COMMENT) (apart_from o.kind NEWLINE o.is refl) (apart_from o.kind COMMENT o.is refl))

abbrev pub Sound : Word → Type 0
Sound [] = Unit {0}
Sound (e ∷ w) = (stray e ≡ false) × Sound w

mutual
  unfolding spell-BE

  pub sound-BE : (x : BE) (k : Word) → Sound k → Sound (spell-BE x k)
  sound-BE (boolean_expr s0 x1 x2 s1) k h = (refl, (sound-B x1 _ (sound-Bs x2 _ (refl, h))))

  pub sound-Bs : (x : Bs) (k : Word) → Sound k → Sound (spell-Bs x k)
  sound-Bs no-B k h = h
  sound-Bs (op-B o s0 x2 x3) k h = (operator_own o s0, (sound-B x2 _ (sound-Bs x3 _ h)))

  pub sound-B : (x : B) (k : Word) → Sound k → Sound (spell-B x k)
  sound-B (boolean_term s0 x1 s1) k h = (refl, (sound-InB x1 _ (refl, h)))

  pub sound-InB : (x : InB) (k : Word) → Sound k → Sound (spell-InB x k)
  sound-InB (true_lit s0) k h = (refl, h)
  sound-InB (false_lit s0) k h = (refl, h)
  sound-InB (not-B s0 x1) k h = (refl, (sound-B x1 _ h))
  sound-InB (defined-B s0 x1) k h = (refl, (sound-B x1 _ h))
  sound-InB (group s0 x1 s1) k h = (refl, (sound-BE x1 _ (refl, h)))
  sound-InB (pattern s0 x1) k h = (refl, (sound-OptA x1 _ h))
  sound-InB (for-B x0) k h = sound-F x0 _ h
  sound-InB (of-B x0) k h = sound-O x0 _ h
  sound-InB (with-B x0) k h = sound-W x0 _ h
  sound-InB (compare x0 x1) k h = sound-E x0 _ (sound-Es x1 _ h)

  pub sound-OptA : (x : OptA) (k : Word) → Sound k → Sound (spell-OptA x k)
  sound-OptA no-A k h = h
  sound-OptA (at s0 x1) k h = (refl, (sound-E x1 _ h))
  sound-OptA (in-A s0 x1) k h = (refl, (sound-R x1 _ h))

  pub sound-Es : (x : Es) (k : Word) → Sound k → Sound (spell-Es x k)
  sound-Es no-E k h = h
  sound-Es (op-E o s0 x2 x3) k h = (operator_own o s0, (sound-E x2 _ (sound-Es x3 _ h)))

  pub sound-E : (x : E) (k : Word) → Sound k → Sound (spell-E x k)
  sound-E (expr s0 x1 x2 s1) k h = (refl, (sound-T x1 _ (sound-Ts x2 _ (refl, h))))

  pub sound-Ts : (x : Ts) (k : Word) → Sound k → Sound (spell-Ts x k)
  sound-Ts no-T k h = h
  sound-Ts (op-T o s0 x2 x3) k h = (operator_own o s0, (sound-T x2 _ (sound-Ts x3 _ h)))

  pub sound-T : (x : T) (k : Word) → Sound k → Sound (spell-T x k)
  sound-T (term s0 x1 s1) k h = (refl, (sound-InT x1 _ (refl, h)))

  pub sound-InT : (x : InT) (k : Word) → Sound k → Sound (spell-InT x k)
  sound-InT (float s0) k h = (refl, h)
  sound-InT (integer s0) k h = (refl, h)
  sound-InT (string s0) k h = (refl, h)
  sound-InT (regexp s0) k h = (refl, h)
  sound-InT (filesize s0) k h = (refl, h)
  sound-InT (entrypoint s0) k h = (refl, h)
  sound-InT (count s0 x1) k h = (refl, (sound-OptR x1 _ h))
  sound-InT (offset s0 x1) k h = (refl, (sound-OptX x1 _ h))
  sound-InT (length s0 x1) k h = (refl, (sound-OptX x1 _ h))
  sound-InT (complement s0 x1) k h = (refl, (sound-T x1 _ h))
  sound-InT (minus s0 x1) k h = (refl, (sound-T x1 _ h))
  sound-InT (parens s0 x1 s1) k h = (refl, (sound-E x1 _ (refl, h)))
  sound-InT (chain x0 x1) k h = sound-P x0 _ (sound-Ps x1 _ h)

  pub sound-OptR : (x : OptR) (k : Word) → Sound k → Sound (spell-OptR x k)
  sound-OptR no-R k h = h
  sound-OptR (in-R s0 x1) k h = (refl, (sound-R x1 _ h))

  pub sound-OptX : (x : OptX) (k : Word) → Sound k → Sound (spell-OptX x k)
  sound-OptX no-X k h = h
  sound-OptX (index s0 x1 s1) k h = (refl, (sound-E x1 _ (refl, h)))

  pub sound-Ps : (x : Ps) (k : Word) → Sound k → Sound (spell-Ps x k)
  sound-Ps no-P k h = h
  sound-Ps (dot-P s0 x1 x2) k h = (refl, (sound-P x1 _ (sound-Ps x2 _ h)))

  pub sound-P : (x : P) (k : Word) → Sound k → Sound (spell-P x k)
  sound-P (primary s0 x1 x2 s1) k h = (refl, (sound-InP x1 _ (sound-OptX x2 _ (refl, h))))

  pub sound-InP : (x : InP) (k : Word) → Sound k → Sound (spell-InP x k)
  sound-InP (name s0) k h = (refl, h)
  sound-InP (call x0) k h = sound-C x0 _ h

  pub sound-C : (x : C) (k : Word) → Sound k → Sound (spell-C x k)
  sound-C (func_call s0 s1 s2 x3 s3 s4) k h = (refl, (refl, (refl, (sound-Args x3 _ (refl, (refl, h))))))

  pub sound-Args : (x : Args) (k : Word) → Sound k → Sound (spell-Args x k)
  sound-Args no_args k h = h
  sound-Args (args x0 x1) k h = sound-BE x0 _ (sound-BEs x1 _ h)

  pub sound-BEs : (x : BEs) (k : Word) → Sound k → Sound (spell-BEs x k)
  sound-BEs no-BE k h = h
  sound-BEs (comma-BE s0 x1 x2) k h = (refl, (sound-BE x1 _ (sound-BEs x2 _ h)))

  pub sound-R : (x : R) (k : Word) → Sound k → Sound (spell-R x k)
  sound-R (range s0 s1 x2 s2 s3 x5 s4 s5) k h = (refl, (refl, (sound-E x2 _ (refl, (refl, (sound-E x5 _ (refl, (refl, h))))))))

  pub sound-Q : (x : Q) (k : Word) → Sound k → Sound (spell-Q x k)
  sound-Q (quantifier s0 x1 s1) k h = (refl, (sound-InQ x1 _ (refl, h)))

  pub sound-InQ : (x : InQ) (k : Word) → Sound k → Sound (spell-InQ x k)
  sound-InQ (all s0) k h = (refl, h)
  sound-InQ (any s0) k h = (refl, h)
  sound-InQ (none s0) k h = (refl, h)
  sound-InQ (percent x0 s0) k h = sound-T x0 _ (refl, h)
  sound-InQ (number x0) k h = sound-E x0 _ h

  pub sound-S : (x : S) (k : Word) → Sound k → Sound (spell-S x k)
  sound-S (them s0) k h = (refl, h)
  sound-S (set s0 s1 x2 x3 s2 s3) k h = (refl, (refl, (sound-I x2 _ (sound-Is x3 _ (refl, (refl, h))))))

  pub sound-I : (x : I) (k : Word) → Sound k → Sound (spell-I x k)
  sound-I (item s0 x1) k h = (refl, (sound-OptStar x1 _ h))

  pub sound-OptStar : (x : OptStar) (k : Word) → Sound k → Sound (spell-OptStar x k)
  sound-OptStar exact k h = h
  sound-OptStar (wildcard s0) k h = (refl, h)

  pub sound-Is : (x : Is) (k : Word) → Sound k → Sound (spell-Is x k)
  sound-Is no-I k h = h
  sound-Is (comma-I s0 x1 x2) k h = (refl, (sound-I x1 _ (sound-Is x2 _ h)))

  pub sound-L : (x : L) (k : Word) → Sound k → Sound (spell-L x k)
  sound-L (iterable s0 x1 s1) k h = (refl, (sound-InL x1 _ (refl, h)))

  pub sound-InL : (x : InL) (k : Word) → Sound k → Sound (spell-InL x k)
  sound-InL (over_range x0) k h = sound-R x0 _ h
  sound-InL (over_tuple s0 s1 x2 x3 s2 s3) k h = (refl, (refl, (sound-E x2 _ (sound-CEs x3 _ (refl, (refl, h))))))
  sound-InL (over_expr x0) k h = sound-E x0 _ h

  pub sound-CEs : (x : CEs) (k : Word) → Sound k → Sound (spell-CEs x k)
  sound-CEs no-CE k h = h
  sound-CEs (comma-E s0 x1 x2) k h = (refl, (sound-E x1 _ (sound-CEs x2 _ h)))

  pub sound-F : (x : F) (k : Word) → Sound k → Sound (spell-F x k)
  sound-F (for_expr s0 s1 x2 x3 x4 s2) k h = (refl, (refl, (sound-Q x2 _ (sound-InF x3 _ (sound-G x4 _ (refl, h))))))

  pub sound-InF : (x : InF) (k : Word) → Sound k → Sound (spell-InF x k)
  sound-InF (for_of s0 x1) k h = (refl, (sound-S x1 _ h))
  sound-InF (for_in s0 x1 s1 x3) k h = (refl, (sound-Vs x1 _ (refl, (sound-L x3 _ h))))

  pub sound-Vs : (x : Vs) (k : Word) → Sound k → Sound (spell-Vs x k)
  sound-Vs no-V k h = h
  sound-Vs (comma-V s0 s1 x2) k h = (refl, (refl, (sound-Vs x2 _ h)))

  pub sound-G : (x : G) (k : Word) → Sound k → Sound (spell-G x k)
  sound-G (body s0 s1 x2 s2) k h = (refl, (refl, (sound-BE x2 _ (refl, h))))

  pub sound-O : (x : O) (k : Word) → Sound k → Sound (spell-O x k)
  sound-O (of_expr s0 x1 s1 x3 x4 s2) k h = (refl, (sound-Q x1 _ (refl, (sound-Items x3 _ (sound-OptA x4 _ (refl, h))))))

  pub sound-Items : (x : Items) (k : Word) → Sound k → Sound (spell-Items x k)
  sound-Items (of_set x0) k h = sound-S x0 _ h
  sound-Items (of_tuple s0 s1 x2 x3 s2 s3) k h = (refl, (refl, (sound-BE x2 _ (sound-BEs x3 _ (refl, (refl, h))))))

  pub sound-W : (x : W) (k : Word) → Sound k → Sound (spell-W x k)
  sound-W (with_expr s0 s1 s2 x3 x4 s3 x6 s4) k h = (refl, (refl, (refl, (sound-D x3 _ (sound-Ds x4 _ (refl, (sound-G x6 _ (refl, h))))))))

  pub sound-Ds : (x : Ds) (k : Word) → Sound k → Sound (spell-Ds x k)
  sound-Ds no-D k h = h
  sound-Ds (comma-D s0 x1 x2) k h = (refl, (sound-D x1 _ (sound-Ds x2 _ h)))

  pub sound-D : (x : D) (k : Word) → Sound k → Sound (spell-D x k)
  sound-D (with_decl s0 s1 s2 x3 s3) k h = (refl, (refl, (refl, (sound-E x3 _ (refl, h)))))

pub sound_at : (u : Word) (e : Event) (w : Word) → Sound (u ++ (e ∷ w)) → stray e ≡ false
sound_at [] e w h = h.0
sound_at (a ∷ u) e w h = sound_at u e w h.1
