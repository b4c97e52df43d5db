-- The tree of a condition over its source: operator lists grouped and merged, innermost first, chains joined from the left,
-- minus signs folded into integer literals.
use Rattle.std.specs.Prelude.{ℕ, Bool, true, false, cond, List, pos, Some, None, Ok, Err, Option, Result}
use Rattle.std.specs.Result.{result_ok}
use Rattle.syntax.specs.Spans.{combined}
use Rattle.syntax.specs.declared.span.Span.{Span}
use Rattle.refusal.specs.declared.refusal.Refusal.{Refusal}
use Rattle.literal.specs.Floats.{float_of}
use Rattle.literal.specs.Integers.{integer_of, negated}
use Rattle.literal.specs.Regexps.{regexp_of}
use Rattle.literal.specs.Strings.{string_of, decoded_bytes}
use Rattle.literal.specs.declared.integer.Integer.{Integer}
use Rattle.tree.specs.Kinds.{same}
use Rattle.tree.specs.Labels.{Label, plain, zero_float}
use Rattle.tree.specs.Labels.Name.{in_source}
use Rattle.tree.specs.Trees.{Tree, Trees, label_at}
use Rattle.tree.specs.Trees.Tree.{node}
use Rattle.tree.specs.Trees.Trees.{none, more}
use Rattle.tree.specs.declared.node.NodeKind.{NodeKind}
use Rattle.tree.specs.declared.node.NodeKind.TheVariants as kind
use Rattle.operators.specs.Groups.{Ops}
use Rattle.operators.specs.Groups.Ops.{lone, then}
use Rattle.operators.specs.Merges.{tree_of}
use Rattle.grammar.specs.Words.{Operator}
use Rattle.grammar.specs.Nodes.{span_of_tree, up_to, leaf, named, name_leaf, alone, unary, further, making, level_in, integer_label, integer_tree, float_tree, string_tree, regexp_tree, wildcard_flag, object_flag}
use Rattle.grammar.specs.Grammar.{BE, Bs, B, InB, OptA, Es, E, Ts, T, InT, OptR, OptX, Ps, P, InP, C, Args, BEs, R, Q, InQ, S, I, OptStar, Is, L, InL, CEs, F, InF, Vs, G, O, Items, W, Ds, D}
use Rattle.grammar.specs.Grammar.BE.{boolean_expr}
use Rattle.grammar.specs.Grammar.Bs.{no-B, op-B}
use Rattle.grammar.specs.Grammar.B.{boolean_term}
use Rattle.grammar.specs.Grammar.InB.{true_lit, false_lit, not-B, defined-B, group, pattern, for-B, of-B, with-B, compare}
use Rattle.grammar.specs.Grammar.OptA.{no-A, at, in-A}
use Rattle.grammar.specs.Grammar.Es.{no-E, op-E}
use Rattle.grammar.specs.Grammar.E.{expr}
use Rattle.grammar.specs.Grammar.Ts.{no-T, op-T}
use Rattle.grammar.specs.Grammar.T.{term}
use Rattle.grammar.specs.Grammar.InT.{float, integer, string, regexp, filesize, entrypoint, count, offset, length, complement, minus, parens, chain}
use Rattle.grammar.specs.Grammar.OptR.{no-R, in-R}
use Rattle.grammar.specs.Grammar.OptX.{no-X, index}
use Rattle.grammar.specs.Grammar.Ps.{no-P, dot-P}
use Rattle.grammar.specs.Grammar.P.{primary}
use Rattle.grammar.specs.Grammar.InP.{name, call}
use Rattle.grammar.specs.Grammar.C.{func_call}
use Rattle.grammar.specs.Grammar.Args.{no_args, args}
use Rattle.grammar.specs.Grammar.BEs.{no-BE, comma-BE}
use Rattle.grammar.specs.Grammar.R.{range}
use Rattle.grammar.specs.Grammar.Q.{quantifier}
use Rattle.grammar.specs.Grammar.InQ.{all, any, none, percent, number}
use Rattle.grammar.specs.Grammar.S.{them, set}
use Rattle.grammar.specs.Grammar.I.{item}
use Rattle.grammar.specs.Grammar.OptStar.{exact, wildcard}
use Rattle.grammar.specs.Grammar.Is.{no-I, comma-I}
use Rattle.grammar.specs.Grammar.L.{iterable}
use Rattle.grammar.specs.Grammar.InL.{over_range, over_tuple, over_expr}
use Rattle.grammar.specs.Grammar.CEs.{no-CE, comma-E}
use Rattle.grammar.specs.Grammar.F.{for_expr}
use Rattle.grammar.specs.Grammar.InF.{for_of, for_in}
use Rattle.grammar.specs.Grammar.Vs.{no-V, comma-V}
use Rattle.grammar.specs.Grammar.G.{body}
use Rattle.grammar.specs.Grammar.O.{of_expr}
use Rattle.grammar.specs.Grammar.Items.{of_set, of_tuple}
use Rattle.grammar.specs.Grammar.W.{with_expr}
use Rattle.grammar.specs.Grammar.Ds.{no-D, comma-D}
use Rattle.grammar.specs.Grammar.D.{with_decl}

-- the tree of an operator list
abbrev pub grouping : Ops Tree Operator → Tree
grouping x = tree_of making level_in x

-- a list of trees from the first to the last
abbrev pub last_of : Tree → Trees → Tree
last_of t none = t
last_of t (more u ts) = last_of u ts

abbrev pub across : Tree → Trees → Span
across t ts = combined (span_of_tree t) (span_of_tree (last_of t ts))

-- what a minus sign makes of an integer literal, if they make a literal together
abbrev pub folded : Result (Option Integer) Refusal → Option Integer
folded (Ok i) = i
folded (Err e) = None

abbrev pub signed : Option Integer → Span → Option Integer
signed None s = None
signed (Some i) s = folded (negated i s)

-- an identifier behind a dot: a further operand of a field access on its left, or one with what stands there
abbrev pub field : Tree → Tree → Tree
field l t =
    cond (same (label_at l).kind kind.FieldAccess) (further l t)
    (node (plain kind.FieldAccess (up_to (span_of_tree l) t)) (more l (alone t)))

-- a call: its span is from the identifier to the closing parenthesis, and leaves its object out
abbrev pub call_label : Span → Span → Bool → Label
call_label ident close object =
    record { kind = kind.FuncCall; span = combined ident close; name = in_source ident; value = pos 0; flags = object_flag object; float = zero_float }

-- a tree and its index, from a place to the closing bracket
abbrev pub lookup : Span → Tree → Tree → Span → Tree
lookup from t i close = node (plain kind.Lookup (combined from close)) (more t (alone i))

-- a pattern, up to the end of its anchor
abbrev pub anchored : Span → Trees → Tree
anchored s none = node (named kind.PatternMatch s s) none
anchored s (more t ts) = node (named kind.PatternMatch (up_to s t) s) (more t ts)

-- the literal that a minus sign and its operand make, or a Minus above the operand
abbrev pub negative : Option Integer → Span → Tree → Tree
negative None s t = unary kind.Minus s t
negative (Some i) s t = node (integer_label i (up_to s t)) none

-- trees as the items of a list: from the first to the last
abbrev pub listed : NodeKind → Tree → Trees → Tree
listed k t ts = node (plain k (across t ts)) (more t ts)

abbrev pub set_item : Span → Span → Bool → Tree
set_item s ident w =
    node (record { kind = kind.SetItem; span = s; name = in_source ident; value = pos 0; flags = wildcard_flag w; float = zero_float }) none

-- from the quantifier to the items, or to the anchor
abbrev pub of_tree : Tree → Tree → Trees → Tree
of_tree q i none = node (plain kind.Of (up_to (span_of_tree q) i)) (more q (alone i))
of_tree q i (more a ts) = node (plain kind.Of (up_to (span_of_tree q) a)) (more q (more i (more a ts)))

module _ (source : List ℕ) where
  unfoldable mutual
    pub tree-BE : BE → Tree
    tree-BE (boolean_expr s0 x1 x2 s1) = grouping (ops-Bs (tree-B x1) x2)

    pub ops-Bs : Tree → Bs → Ops Tree Operator
    ops-Bs t no-B = lone t
    ops-Bs t (op-B o s0 x2 x3) = then t o (ops-Bs (tree-B x2) x3)

    pub tree-B : B → Tree
    tree-B (boolean_term s0 x1 s1) = tree-InB x1

    pub tree-InB : InB → Tree
    tree-InB (true_lit s0) = leaf kind.True s0
    tree-InB (false_lit s0) = leaf kind.False s0
    tree-InB (not-B s0 x1) = unary kind.Not s0 (tree-B x1)
    tree-InB (defined-B s0 x1) = unary kind.Defined s0 (tree-B x1)
    tree-InB (group s0 x1 s1) = tree-BE x1
    tree-InB (pattern s0 x1) = anchored s0 (trees-OptA x1)
    tree-InB (for-B x0) = tree-F x0
    tree-InB (of-B x0) = tree-O x0
    tree-InB (with-B x0) = tree-W x0
    tree-InB (compare x0 x1) = grouping (ops-Es (tree-E x0) x1)

    -- the anchor, if there is one
    pub trees-OptA : OptA → Trees
    trees-OptA no-A = none
    trees-OptA (at s0 x1) = alone (unary kind.At s0 (tree-E x1))
    trees-OptA (in-A s0 x1) = alone (unary kind.In s0 (tree-R x1))

    pub ops-Es : Tree → Es → Ops Tree Operator
    ops-Es t no-E = lone t
    ops-Es t (op-E o s0 x2 x3) = then t o (ops-Es (tree-E x2) x3)

    pub tree-E : E → Tree
    tree-E (expr s0 x1 x2 s1) = grouping (ops-Ts (tree-T x1) x2)

    pub ops-Ts : Tree → Ts → Ops Tree Operator
    ops-Ts t no-T = lone t
    ops-Ts t (op-T o s0 x2 x3) = then t o (ops-Ts (tree-T x2) x3)

    pub tree-T : T → Tree
    tree-T (term s0 x1 s1) = tree-InT x1

    pub tree-InT : InT → Tree
    tree-InT (float s0) = float_tree (float_of source s0) s0
    tree-InT (integer s0) = integer_tree (integer_of source s0) s0
    tree-InT (string s0) = string_tree (string_of source s0 0) (decoded_bytes source s0) s0
    tree-InT (regexp s0) = regexp_tree (regexp_of source s0) s0
    tree-InT (filesize s0) = leaf kind.Filesize s0
    tree-InT (entrypoint s0) = leaf kind.Entrypoint s0
    tree-InT (count s0 x1) = node (named kind.PatternCount (span-OptR s0 x1) s0) (trees-OptR x1)
    tree-InT (offset s0 x1) = node (named kind.PatternOffset (span-OptX s0 x1) s0) (trees-OptX x1)
    tree-InT (length s0 x1) = node (named kind.PatternLength (span-OptX s0 x1) s0) (trees-OptX x1)
    tree-InT (complement s0 x1) = unary kind.BitwiseNot s0 (tree-T x1)
    tree-InT (minus s0 x1) = negative (signed (integer-T x1) (up_to s0 (tree-T x1))) s0 (tree-T x1)
    tree-InT (parens s0 x1 s1) = tree-E x1
    tree-InT (chain x0 x1) = joined-Ps (tree-P x0) x1

    -- the integer literal that a term is, if it is one with no parenthesis
    pub integer-T : T → Option Integer
    integer-T (term s0 x1 s1) = integer-InT x1

    pub integer-InT : InT → Option Integer
    integer-InT (float s0) = None
    integer-InT (integer s0) = result_ok (integer_of source s0)
    integer-InT (string s0) = None
    integer-InT (regexp s0) = None
    integer-InT (filesize s0) = None
    integer-InT (entrypoint s0) = None
    integer-InT (count s0 x1) = None
    integer-InT (offset s0 x1) = None
    integer-InT (length s0 x1) = None
    integer-InT (complement s0 x1) = None
    integer-InT (minus s0 x1) = signed (integer-T x1) (up_to s0 (tree-T x1))
    integer-InT (parens s0 x1 s1) = None
    integer-InT (chain x0 x1) = None

    -- the range of a count, if there is one
    pub trees-OptR : OptR → Trees
    trees-OptR no-R = none
    trees-OptR (in-R s0 x1) = alone (tree-R x1)

    pub span-OptR : Span → OptR → Span
    span-OptR s no-R = s
    span-OptR s (in-R s0 x1) = up_to s (tree-R x1)

    -- an index, if there is one
    pub trees-OptX : OptX → Trees
    trees-OptX no-X = none
    trees-OptX (index s0 x1 s1) = alone (tree-E x1)

    pub span-OptX : Span → OptX → Span
    span-OptX s no-X = s
    span-OptX s (index s0 x1 s1) = combined s s1

    -- what stands before a chain's dots, and the primaries behind them
    pub joined-Ps : Tree → Ps → Tree
    joined-Ps l no-P = l
    joined-Ps l (dot-P s0 x1 x2) = joined-Ps (behind-P l x1) x2

    pub tree-P : P → Tree
    tree-P (primary s0 x1 x2 s1) = indexed-OptX (span_of_tree (tree-InP x1)) (tree-InP x1) x2

    -- a primary behind a dot
    pub behind-P : Tree → P → Tree
    behind-P l (primary s0 x1 x2 s1) = indexed-OptX (span_of_tree l) (behind-InP l x1) x2

    pub indexed-OptX : Span → Tree → OptX → Tree
    indexed-OptX from t no-X = t
    indexed-OptX from t (index s0 x1 s1) = lookup from t (tree-E x1) s1

    pub tree-InP : InP → Tree
    tree-InP (name s0) = name_leaf kind.Ident s0
    tree-InP (call x0) = tree-C x0

    pub behind-InP : Tree → InP → Tree
    behind-InP l (name s0) = field l (name_leaf kind.Ident s0)
    behind-InP l (call x0) = method-C l x0

    pub tree-C : C → Tree
    tree-C (func_call s0 s1 s2 x3 s3 s4) = node (call_label s1 s3 false) (trees-Args x3)

    -- a call on an object
    pub method-C : Tree → C → Tree
    method-C l (func_call s0 s1 s2 x3 s3 s4) = node (call_label s1 s3 true) (more l (trees-Args x3))

    pub trees-Args : Args → Trees
    trees-Args no_args = none
    trees-Args (args x0 x1) = more (tree-BE x0) (trees-BEs x1)

    pub trees-BEs : BEs → Trees
    trees-BEs no-BE = none
    trees-BEs (comma-BE s0 x1 x2) = more (tree-BE x1) (trees-BEs x2)

    pub tree-R : R → Tree
    tree-R (range s0 s1 x2 s2 s3 x5 s4 s5) =
        node (plain kind.Range (combined s1 s4)) (more (tree-E x2) (alone (tree-E x5)))

    pub tree-Q : Q → Tree
    tree-Q (quantifier s0 x1 s1) = tree-InQ x1

    pub tree-InQ : InQ → Tree
    tree-InQ (all s0) = leaf kind.QuantifierAll s0
    tree-InQ (any s0) = leaf kind.QuantifierAny s0
    tree-InQ (none s0) = leaf kind.QuantifierNone s0
    tree-InQ (percent x0 s0) = node (plain kind.QuantifierPercentage (span_of_tree (tree-T x0))) (alone (tree-T x0))
    tree-InQ (number x0) = node (plain kind.QuantifierExpr (span_of_tree (tree-E x0))) (alone (tree-E x0))

    pub tree-S : S → Tree
    tree-S (them s0) = leaf kind.Them s0
    tree-S (set s0 s1 x2 x3 s2 s3) = listed kind.Set (tree-I x2) (trees-Is x3)

    pub tree-I : I → Tree
    tree-I (item s0 x1) = item_tree s0 x1

    pub item_tree : Span → OptStar → Tree
    item_tree s exact = set_item s s false
    item_tree s (wildcard s0) = set_item (combined s s0) s true

    pub trees-Is : Is → Trees
    trees-Is no-I = none
    trees-Is (comma-I s0 x1 x2) = more (tree-I x1) (trees-Is x2)

    pub tree-L : L → Tree
    tree-L (iterable s0 x1 s1) = tree-InL x1

    pub tree-InL : InL → Tree
    tree-InL (over_range x0) = tree-R x0
    tree-InL (over_tuple s0 s1 x2 x3 s2 s3) = listed kind.ExprTuple (tree-E x2) (trees-CEs x3)
    tree-InL (over_expr x0) = tree-E x0

    pub trees-CEs : CEs → Trees
    trees-CEs no-CE = none
    trees-CEs (comma-E s0 x1 x2) = more (tree-E x1) (trees-CEs x2)

    pub tree-F : F → Tree
    tree-F (for_expr s0 s1 x2 x3 x4 s2) = tree-InF (tree-Q x2) (combined s1 (end-G x4)) (tree-G x4) x3

    -- the quantifier, the span and the body are given
    pub tree-InF : Tree → Span → Tree → InF → Tree
    tree-InF q s b (for_of s0 x1) = node (plain kind.ForOf s) (more q (more (tree-S x1) (alone b)))
    tree-InF q s b (for_in s0 x1 s1 x3) =
        node (plain kind.ForIn s) (more q (more (name_leaf kind.Ident s0) (variables-Vs x1 (more (tree-L x3) (alone b)))))

    -- further variables, before other trees
    pub variables-Vs : Vs → Trees → Trees
    variables-Vs no-V ts = ts
    variables-Vs (comma-V s0 s1 x2) ts = more (name_leaf kind.Ident s1) (variables-Vs x2 ts)

    pub tree-G : G → Tree
    tree-G (body s0 s1 x2 s2) = tree-BE x2

    pub end-G : G → Span
    end-G (body s0 s1 x2 s2) = s2

    pub tree-O : O → Tree
    tree-O (of_expr s0 x1 s1 x3 x4 s2) = of_tree (tree-Q x1) (tree-Items x3) (trees-OptA x4)

    pub tree-Items : Items → Tree
    tree-Items (of_set x0) = tree-S x0
    tree-Items (of_tuple s0 s1 x2 x3 s2 s3) = listed kind.BoolTuple (tree-BE x2) (trees-BEs x3)

    pub tree-W : W → Tree
    tree-W (with_expr s0 s1 s2 x3 x4 s3 x6 s4) =
        node (plain kind.With (combined s1 (end-G x6))) (more (tree-D x3) (declared-Ds x4 (alone (tree-G x6))))

    -- further declarations, before other trees
    pub declared-Ds : Ds → Trees → Trees
    declared-Ds no-D ts = ts
    declared-Ds (comma-D s0 x1 x2) ts = more (tree-D x1) (declared-Ds x2 ts)

    pub tree-D : D → Tree
    tree-D (with_decl s0 s1 s2 x3 s3) = node (named kind.WithDeclaration (up_to s1 (tree-E x3)) s1) (alone (tree-E x3))
