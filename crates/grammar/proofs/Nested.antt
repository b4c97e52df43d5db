-- Each way to write a symbol nests.
use Rattle.grammar.specs.Words.{Word}
use Rattle.grammar.specs.Grammar.{BE, Bs, B, InB, OptA, Es, E, Ts, T, InT, OptR, OptX, Ps, P, InP, C, Args, BEs, R, Q, InQ, S, I, OptStar, Is, L, InL, CEs, F, InF, Vs, G, O, Items, W, Ds, D, spell-BE, spell-Bs, spell-B, spell-InB, spell-OptA, spell-Es, spell-E, spell-Ts, spell-T, spell-InT, spell-OptR, spell-OptX, spell-Ps, spell-P, spell-InP, spell-C, spell-Args, spell-BEs, spell-R, spell-Q, spell-InQ, spell-S, spell-I, spell-OptStar, spell-Is, spell-L, spell-InL, spell-CEs, spell-F, spell-InF, spell-Vs, spell-G, spell-O, spell-Items, spell-W, spell-Ds, spell-D}
use Rattle.grammar.specs.Grammar.BE.{boolean_expr}
use Rattle.grammar.specs.Grammar.Bs.{no-B, op-B}
use Rattle.grammar.specs.Grammar.B.{boolean_term}
use Rattle.grammar.specs.Grammar.InB.{true_lit, false_lit, not-B, defined-B, group, pattern, for-B, of-B, with-B, compare}
use Rattle.grammar.specs.Grammar.OptA.{no-A, at, in-A}
use Rattle.grammar.specs.Grammar.Es.{no-E, op-E}
use Rattle.grammar.specs.Grammar.E.{expr}
use Rattle.grammar.specs.Grammar.Ts.{no-T, op-T}
use Rattle.grammar.specs.Grammar.T.{term}
use Rattle.grammar.specs.Grammar.InT.{float, integer, string, regexp, filesize, entrypoint, count, offset, length, complement, minus, parens, chain}
use Rattle.grammar.specs.Grammar.OptR.{no-R, in-R}
use Rattle.grammar.specs.Grammar.OptX.{no-X, index}
use Rattle.grammar.specs.Grammar.Ps.{no-P, dot-P}
use Rattle.grammar.specs.Grammar.P.{primary}
use Rattle.grammar.specs.Grammar.InP.{name, call}
use Rattle.grammar.specs.Grammar.C.{func_call}
use Rattle.grammar.specs.Grammar.Args.{no_args, args}
use Rattle.grammar.specs.Grammar.BEs.{no-BE, comma-BE}
use Rattle.grammar.specs.Grammar.R.{range}
use Rattle.grammar.specs.Grammar.Q.{quantifier}
use Rattle.grammar.specs.Grammar.InQ.{all, any, none, percent, number}
use Rattle.grammar.specs.Grammar.S.{them, set}
use Rattle.grammar.specs.Grammar.I.{item}
use Rattle.grammar.specs.Grammar.OptStar.{exact, wildcard}
use Rattle.grammar.specs.Grammar.Is.{no-I, comma-I}
use Rattle.grammar.specs.Grammar.L.{iterable}
use Rattle.grammar.specs.Grammar.InL.{over_range, over_tuple, over_expr}
use Rattle.grammar.specs.Grammar.CEs.{no-CE, comma-E}
use Rattle.grammar.specs.Grammar.F.{for_expr}
use Rattle.grammar.specs.Grammar.InF.{for_of, for_in}
use Rattle.grammar.specs.Grammar.Vs.{no-V, comma-V}
use Rattle.grammar.specs.Grammar.G.{body}
use Rattle.grammar.specs.Grammar.O.{of_expr}
use Rattle.grammar.specs.Grammar.Items.{of_set, of_tuple}
use Rattle.grammar.specs.Grammar.W.{with_expr}
use Rattle.grammar.specs.Grammar.Ds.{no-D, comma-D}
use Rattle.grammar.specs.Grammar.D.{with_decl}
use Rattle.grammar.specs.Nests.{Nests, done, one, node}

pub joined : {u v w : Word} → Nests u v → Nests v w → Nests u w
joined done n = n
joined (one m) n = one (joined m n)
joined (node i m) n = node i (joined m n)

mutual
  unfolding spell-BE

  pub nests-BE : (x : BE) (k : Word) → Nests (spell-BE x k) k
  nests-BE (boolean_expr s0 x1 x2 s1) k = node (joined (nests-B x1 _) (nests-Bs x2 _)) done

  pub nests-Bs : (x : Bs) (k : Word) → Nests (spell-Bs x k) k
  nests-Bs no-B k = done
  nests-Bs (op-B o s0 x2 x3) k = one (joined (nests-B x2 _) (nests-Bs x3 _))

  pub nests-B : (x : B) (k : Word) → Nests (spell-B x k) k
  nests-B (boolean_term s0 x1 s1) k = node (nests-InB x1 _) done

  pub nests-InB : (x : InB) (k : Word) → Nests (spell-InB x k) k
  nests-InB (true_lit s0) k = one done
  nests-InB (false_lit s0) k = one done
  nests-InB (not-B s0 x1) k = one (nests-B x1 _)
  nests-InB (defined-B s0 x1) k = one (nests-B x1 _)
  nests-InB (group s0 x1 s1) k = one (joined (nests-BE x1 _) (one done))
  nests-InB (pattern s0 x1) k = one (nests-OptA x1 _)
  nests-InB (for-B x0) k = nests-F x0 _
  nests-InB (of-B x0) k = nests-O x0 _
  nests-InB (with-B x0) k = nests-W x0 _
  nests-InB (compare x0 x1) k = joined (nests-E x0 _) (nests-Es x1 _)

  pub nests-OptA : (x : OptA) (k : Word) → Nests (spell-OptA x k) k
  nests-OptA no-A k = done
  nests-OptA (at s0 x1) k = one (nests-E x1 _)
  nests-OptA (in-A s0 x1) k = one (nests-R x1 _)

  pub nests-Es : (x : Es) (k : Word) → Nests (spell-Es x k) k
  nests-Es no-E k = done
  nests-Es (op-E o s0 x2 x3) k = one (joined (nests-E x2 _) (nests-Es x3 _))

  pub nests-E : (x : E) (k : Word) → Nests (spell-E x k) k
  nests-E (expr s0 x1 x2 s1) k = node (joined (nests-T x1 _) (nests-Ts x2 _)) done

  pub nests-Ts : (x : Ts) (k : Word) → Nests (spell-Ts x k) k
  nests-Ts no-T k = done
  nests-Ts (op-T o s0 x2 x3) k = one (joined (nests-T x2 _) (nests-Ts x3 _))

  pub nests-T : (x : T) (k : Word) → Nests (spell-T x k) k
  nests-T (term s0 x1 s1) k = node (nests-InT x1 _) done

  pub nests-InT : (x : InT) (k : Word) → Nests (spell-InT x k) k
  nests-InT (float s0) k = one done
  nests-InT (integer s0) k = one done
  nests-InT (string s0) k = one done
  nests-InT (regexp s0) k = one done
  nests-InT (filesize s0) k = one done
  nests-InT (entrypoint s0) k = one done
  nests-InT (count s0 x1) k = one (nests-OptR x1 _)
  nests-InT (offset s0 x1) k = one (nests-OptX x1 _)
  nests-InT (length s0 x1) k = one (nests-OptX x1 _)
  nests-InT (complement s0 x1) k = one (nests-T x1 _)
  nests-InT (minus s0 x1) k = one (nests-T x1 _)
  nests-InT (parens s0 x1 s1) k = one (joined (nests-E x1 _) (one done))
  nests-InT (chain x0 x1) k = joined (nests-P x0 _) (nests-Ps x1 _)

  pub nests-OptR : (x : OptR) (k : Word) → Nests (spell-OptR x k) k
  nests-OptR no-R k = done
  nests-OptR (in-R s0 x1) k = one (nests-R x1 _)

  pub nests-OptX : (x : OptX) (k : Word) → Nests (spell-OptX x k) k
  nests-OptX no-X k = done
  nests-OptX (index s0 x1 s1) k = one (joined (nests-E x1 _) (one done))

  pub nests-Ps : (x : Ps) (k : Word) → Nests (spell-Ps x k) k
  nests-Ps no-P k = done
  nests-Ps (dot-P s0 x1 x2) k = one (joined (nests-P x1 _) (nests-Ps x2 _))

  pub nests-P : (x : P) (k : Word) → Nests (spell-P x k) k
  nests-P (primary s0 x1 x2 s1) k = node (joined (nests-InP x1 _) (nests-OptX x2 _)) done

  pub nests-InP : (x : InP) (k : Word) → Nests (spell-InP x k) k
  nests-InP (name s0) k = one done
  nests-InP (call x0) k = nests-C x0 _

  pub nests-C : (x : C) (k : Word) → Nests (spell-C x k) k
  nests-C (func_call s0 s1 s2 x3 s3 s4) k = node (one (one (joined (nests-Args x3 _) (one done)))) done

  pub nests-Args : (x : Args) (k : Word) → Nests (spell-Args x k) k
  nests-Args no_args k = done
  nests-Args (args x0 x1) k = joined (nests-BE x0 _) (nests-BEs x1 _)

  pub nests-BEs : (x : BEs) (k : Word) → Nests (spell-BEs x k) k
  nests-BEs no-BE k = done
  nests-BEs (comma-BE s0 x1 x2) k = one (joined (nests-BE x1 _) (nests-BEs x2 _))

  pub nests-R : (x : R) (k : Word) → Nests (spell-R x k) k
  nests-R (range s0 s1 x2 s2 s3 x5 s4 s5) k = node (one (joined (nests-E x2 _) (one (one (joined (nests-E x5 _) (one done)))))) done

  pub nests-Q : (x : Q) (k : Word) → Nests (spell-Q x k) k
  nests-Q (quantifier s0 x1 s1) k = node (nests-InQ x1 _) done

  pub nests-InQ : (x : InQ) (k : Word) → Nests (spell-InQ x k) k
  nests-InQ (all s0) k = one done
  nests-InQ (any s0) k = one done
  nests-InQ (none s0) k = one done
  nests-InQ (percent x0 s0) k = joined (nests-T x0 _) (one done)
  nests-InQ (number x0) k = nests-E x0 _

  pub nests-S : (x : S) (k : Word) → Nests (spell-S x k) k
  nests-S (them s0) k = one done
  nests-S (set s0 s1 x2 x3 s2 s3) k = node (one (joined (nests-I x2 _) (joined (nests-Is x3 _) (one done)))) done

  pub nests-I : (x : I) (k : Word) → Nests (spell-I x k) k
  nests-I (item s0 x1) k = one (nests-OptStar x1 _)

  pub nests-OptStar : (x : OptStar) (k : Word) → Nests (spell-OptStar x k) k
  nests-OptStar exact k = done
  nests-OptStar (wildcard s0) k = one done

  pub nests-Is : (x : Is) (k : Word) → Nests (spell-Is x k) k
  nests-Is no-I k = done
  nests-Is (comma-I s0 x1 x2) k = one (joined (nests-I x1 _) (nests-Is x2 _))

  pub nests-L : (x : L) (k : Word) → Nests (spell-L x k) k
  nests-L (iterable s0 x1 s1) k = node (nests-InL x1 _) done

  pub nests-InL : (x : InL) (k : Word) → Nests (spell-InL x k) k
  nests-InL (over_range x0) k = nests-R x0 _
  nests-InL (over_tuple s0 s1 x2 x3 s2 s3) k = node (one (joined (nests-E x2 _) (joined (nests-CEs x3 _) (one done)))) done
  nests-InL (over_expr x0) k = nests-E x0 _

  pub nests-CEs : (x : CEs) (k : Word) → Nests (spell-CEs x k) k
  nests-CEs no-CE k = done
  nests-CEs (comma-E s0 x1 x2) k = one (joined (nests-E x1 _) (nests-CEs x2 _))

  pub nests-F : (x : F) (k : Word) → Nests (spell-F x k) k
  nests-F (for_expr s0 s1 x2 x3 x4 s2) k = node (one (joined (nests-Q x2 _) (joined (nests-InF x3 _) (nests-G x4 _)))) done

  pub nests-InF : (x : InF) (k : Word) → Nests (spell-InF x k) k
  nests-InF (for_of s0 x1) k = one (nests-S x1 _)
  nests-InF (for_in s0 x1 s1 x3) k = one (joined (nests-Vs x1 _) (one (nests-L x3 _)))

  pub nests-Vs : (x : Vs) (k : Word) → Nests (spell-Vs x k) k
  nests-Vs no-V k = done
  nests-Vs (comma-V s0 s1 x2) k = one (one (nests-Vs x2 _))

  pub nests-G : (x : G) (k : Word) → Nests (spell-G x k) k
  nests-G (body s0 s1 x2 s2) k = one (one (joined (nests-BE x2 _) (one done)))

  pub nests-O : (x : O) (k : Word) → Nests (spell-O x k) k
  nests-O (of_expr s0 x1 s1 x3 x4 s2) k = node (joined (nests-Q x1 _) (one (joined (nests-Items x3 _) (nests-OptA x4 _)))) done

  pub nests-Items : (x : Items) (k : Word) → Nests (spell-Items x k) k
  nests-Items (of_set x0) k = nests-S x0 _
  nests-Items (of_tuple s0 s1 x2 x3 s2 s3) k = node (one (joined (nests-BE x2 _) (joined (nests-BEs x3 _) (one done)))) done

  pub nests-W : (x : W) (k : Word) → Nests (spell-W x k) k
  nests-W (with_expr s0 s1 s2 x3 x4 s3 x6 s4) k = node (one (node (joined (nests-D x3 _) (nests-Ds x4 _)) (nests-G x6 _))) done

  pub nests-Ds : (x : Ds) (k : Word) → Nests (spell-Ds x k) k
  nests-Ds no-D k = done
  nests-Ds (comma-D s0 x1 x2) k = one (joined (nests-D x1 _) (nests-Ds x2 _))

  pub nests-D : (x : D) (k : Word) → Nests (spell-D x k) k
  nests-D (with_decl s0 s1 s2 x3 s3) k = node (one (one (nests-E x3 _))) done
