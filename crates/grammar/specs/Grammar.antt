-- The grammar of conditions as data: a value of each type is one way to write that symbol, and its
-- spelling is the list of events it is written with, trivia and Error events aside, before what follows.
use Rattle.std.specs.Prelude.{◌∷◌}
use Rattle.syntax.specs.declared.span.Span.{Span}
use Rattle.syntax.specs.declared.event.Event.TheVariants.{Begin, End, Token}
use Rattle.kinds.specs.declared.kind.SyntaxKind.TheVariants.{BOOLEAN_EXPR, BOOLEAN_TERM, TRUE_KW, FALSE_KW, NOT_KW, DEFINED_KW, L_PAREN, R_PAREN, PATTERN_IDENT, AT_KW, IN_KW, EXPR, TERM, FLOAT_LIT, INTEGER_LIT, STRING_LIT, REGEXP, FILESIZE_KW, ENTRYPOINT_KW, PATTERN_COUNT, PATTERN_OFFSET, PATTERN_LENGTH, BITWISE_NOT, MINUS, L_BRACKET, R_BRACKET, DOT, PRIMARY_EXPR, IDENT, FUNC_CALL, COMMA, RANGE, QUANTIFIER, ALL_KW, ANY_KW, NONE_KW, PERCENT, THEM_KW, PATTERN_IDENT_TUPLE, ASTERISK, ITERABLE, EXPR_TUPLE, FOR_EXPR, FOR_KW, OF_KW, COLON, OF_EXPR, BOOLEAN_EXPR_TUPLE, WITH_EXPR, WITH_KW, WITH_DECLS, WITH_DECL, EQUAL}
use Rattle.grammar.specs.Words.{Word, Operator}

mutual
  -- BE = BOOLEAN_EXPR[B (op B)*]
  pub data BE : Type 0 where
    boolean_expr : Span → B → Bs → Span → BE

  -- (op B)*
  pub data Bs : Type 0 where
    no-B : Bs
    op-B : Operator → Span → B → Bs → Bs

  -- B = BOOLEAN_TERM[TRUE | FALSE | (NOT | DEFINED) B | LP BE RP | PATTERN_IDENT A? | F | O | W | E (op E)*]
  pub data B : Type 0 where
    boolean_term : Span → InB → Span → B

  pub data InB : Type 0 where
    true_lit : Span → InB
    false_lit : Span → InB
    not-B : Span → B → InB
    defined-B : Span → B → InB
    group : Span → BE → Span → InB
    pattern : Span → OptA → InB
    for-B : F → InB
    of-B : O → InB
    with-B : W → InB
    compare : E → Es → InB

  -- A?, A = AT E | IN R
  pub data OptA : Type 0 where
    no-A : OptA
    at : Span → E → OptA
    in-A : Span → R → OptA

  -- (op E)*
  pub data Es : Type 0 where
    no-E : Es
    op-E : Operator → Span → E → Es → Es

  -- E = EXPR[T (op T)*]
  pub data E : Type 0 where
    expr : Span → T → Ts → Span → E

  -- (op T)*
  pub data Ts : Type 0 where
    no-T : Ts
    op-T : Operator → Span → T → Ts → Ts

  -- T = TERM[..]
  pub data T : Type 0 where
    term : Span → InT → Span → T

  pub data InT : Type 0 where
    float : Span → InT
    integer : Span → InT
    string : Span → InT
    regexp : Span → InT
    filesize : Span → InT
    entrypoint : Span → InT
    count : Span → OptR → InT
    offset : Span → OptX → InT
    length : Span → OptX → InT
    complement : Span → T → InT
    minus : Span → T → InT
    parens : Span → E → Span → InT
    chain : P → Ps → InT

  -- (IN R)?
  pub data OptR : Type 0 where
    no-R : OptR
    in-R : Span → R → OptR

  -- X?, X = L_BRACKET E R_BRACKET
  pub data OptX : Type 0 where
    no-X : OptX
    index : Span → E → Span → OptX

  -- (DOT P)*
  pub data Ps : Type 0 where
    no-P : Ps
    dot-P : Span → P → Ps → Ps

  -- P = PRIMARY_EXPR[(C | IDENT) X?]
  pub data P : Type 0 where
    primary : Span → InP → OptX → Span → P

  pub data InP : Type 0 where
    name : Span → InP
    call : C → InP

  -- C = FUNC_CALL[IDENT LP (BE (COMMA BE)*)? RP]
  pub data C : Type 0 where
    func_call : Span → Span → Span → Args → Span → Span → C

  pub data Args : Type 0 where
    no_args : Args
    args : BE → BEs → Args

  -- (COMMA BE)*
  pub data BEs : Type 0 where
    no-BE : BEs
    comma-BE : Span → BE → BEs → BEs

  -- R = RANGE[LP E DOT DOT E RP]
  pub data R : Type 0 where
    range : Span → Span → E → Span → Span → E → Span → Span → R

  -- Q = QUANTIFIER[ALL | ANY | NONE | T PERCENT | E]
  pub data Q : Type 0 where
    quantifier : Span → InQ → Span → Q

  pub data InQ : Type 0 where
    all : Span → InQ
    any : Span → InQ
    none : Span → InQ
    percent : T → Span → InQ
    number : E → InQ

  -- S = THEM | PATTERN_IDENT_TUPLE[LP I (COMMA I)* RP]
  pub data S : Type 0 where
    them : Span → S
    set : Span → Span → I → Is → Span → Span → S

  -- I = PATTERN_IDENT ASTERISK?
  pub data I : Type 0 where
    item : Span → OptStar → I

  pub data OptStar : Type 0 where
    exact : OptStar
    wildcard : Span → OptStar

  -- (COMMA I)*
  pub data Is : Type 0 where
    no-I : Is
    comma-I : Span → I → Is → Is

  -- L = ITERABLE[R | EXPR_TUPLE[LP E (COMMA E)* RP] | E]
  pub data L : Type 0 where
    iterable : Span → InL → Span → L

  pub data InL : Type 0 where
    over_range : R → InL
    over_tuple : Span → Span → E → CEs → Span → Span → InL
    over_expr : E → InL

  -- (COMMA E)*
  pub data CEs : Type 0 where
    no-CE : CEs
    comma-E : Span → E → CEs → CEs

  -- F = FOR_EXPR[FOR Q (OF S | IDENT (COMMA IDENT)* IN L) G]
  pub data F : Type 0 where
    for_expr : Span → Span → Q → InF → G → Span → F

  pub data InF : Type 0 where
    for_of : Span → S → InF
    for_in : Span → Vs → Span → L → InF

  -- (COMMA IDENT)*
  pub data Vs : Type 0 where
    no-V : Vs
    comma-V : Span → Span → Vs → Vs

  -- G = COLON LP BE RP
  pub data G : Type 0 where
    body : Span → Span → BE → Span → G

  -- O = OF_EXPR[Q OF (S | BOOLEAN_EXPR_TUPLE[LP BE (COMMA BE)* RP]) A?]
  pub data O : Type 0 where
    of_expr : Span → Q → Span → Items → OptA → Span → O

  pub data Items : Type 0 where
    of_set : S → Items
    of_tuple : Span → Span → BE → BEs → Span → Span → Items

  -- W = WITH_EXPR[WITH WITH_DECLS[D (COMMA D)*] G]
  pub data W : Type 0 where
    with_expr : Span → Span → Span → D → Ds → Span → G → Span → W

  -- (COMMA D)*
  pub data Ds : Type 0 where
    no-D : Ds
    comma-D : Span → D → Ds → Ds

  -- D = WITH_DECL[IDENT EQUAL E]
  pub data D : Type 0 where
    with_decl : Span → Span → Span → E → Span → D

unfoldable mutual
  pub spell-BE : BE → Word → Word
  spell-BE (boolean_expr s0 x1 x2 s1) k = Begin BOOLEAN_EXPR s0 ∷ (spell-B x1 (spell-Bs x2 (End BOOLEAN_EXPR s1 ∷ k)))

  pub spell-Bs : Bs → Word → Word
  spell-Bs no-B k = k
  spell-Bs (op-B o s0 x2 x3) k = Token o.kind s0 ∷ (spell-B x2 (spell-Bs x3 k))

  pub spell-B : B → Word → Word
  spell-B (boolean_term s0 x1 s1) k = Begin BOOLEAN_TERM s0 ∷ (spell-InB x1 (End BOOLEAN_TERM s1 ∷ k))

  pub spell-InB : InB → Word → Word
  spell-InB (true_lit s0) k = Token TRUE_KW s0 ∷ k
  spell-InB (false_lit s0) k = Token FALSE_KW s0 ∷ k
  spell-InB (not-B s0 x1) k = Token NOT_KW s0 ∷ (spell-B x1 k)
  spell-InB (defined-B s0 x1) k = Token DEFINED_KW s0 ∷ (spell-B x1 k)
  spell-InB (group s0 x1 s1) k = Token L_PAREN s0 ∷ (spell-BE x1 (Token R_PAREN s1 ∷ k))
  spell-InB (pattern s0 x1) k = Token PATTERN_IDENT s0 ∷ (spell-OptA x1 k)
  spell-InB (for-B x0) k = spell-F x0 k
  spell-InB (of-B x0) k = spell-O x0 k
  spell-InB (with-B x0) k = spell-W x0 k
  spell-InB (compare x0 x1) k = spell-E x0 (spell-Es x1 k)

  pub spell-OptA : OptA → Word → Word
  spell-OptA no-A k = k
  spell-OptA (at s0 x1) k = Token AT_KW s0 ∷ (spell-E x1 k)
  spell-OptA (in-A s0 x1) k = Token IN_KW s0 ∷ (spell-R x1 k)

  pub spell-Es : Es → Word → Word
  spell-Es no-E k = k
  spell-Es (op-E o s0 x2 x3) k = Token o.kind s0 ∷ (spell-E x2 (spell-Es x3 k))

  pub spell-E : E → Word → Word
  spell-E (expr s0 x1 x2 s1) k = Begin EXPR s0 ∷ (spell-T x1 (spell-Ts x2 (End EXPR s1 ∷ k)))

  pub spell-Ts : Ts → Word → Word
  spell-Ts no-T k = k
  spell-Ts (op-T o s0 x2 x3) k = Token o.kind s0 ∷ (spell-T x2 (spell-Ts x3 k))

  pub spell-T : T → Word → Word
  spell-T (term s0 x1 s1) k = Begin TERM s0 ∷ (spell-InT x1 (End TERM s1 ∷ k))

  pub spell-InT : InT → Word → Word
  spell-InT (float s0) k = Token FLOAT_LIT s0 ∷ k
  spell-InT (integer s0) k = Token INTEGER_LIT s0 ∷ k
  spell-InT (string s0) k = Token STRING_LIT s0 ∷ k
  spell-InT (regexp s0) k = Token REGEXP s0 ∷ k
  spell-InT (filesize s0) k = Token FILESIZE_KW s0 ∷ k
  spell-InT (entrypoint s0) k = Token ENTRYPOINT_KW s0 ∷ k
  spell-InT (count s0 x1) k = Token PATTERN_COUNT s0 ∷ (spell-OptR x1 k)
  spell-InT (offset s0 x1) k = Token PATTERN_OFFSET s0 ∷ (spell-OptX x1 k)
  spell-InT (length s0 x1) k = Token PATTERN_LENGTH s0 ∷ (spell-OptX x1 k)
  spell-InT (complement s0 x1) k = Token BITWISE_NOT s0 ∷ (spell-T x1 k)
  spell-InT (minus s0 x1) k = Token MINUS s0 ∷ (spell-T x1 k)
  spell-InT (parens s0 x1 s1) k = Token L_PAREN s0 ∷ (spell-E x1 (Token R_PAREN s1 ∷ k))
  spell-InT (chain x0 x1) k = spell-P x0 (spell-Ps x1 k)

  pub spell-OptR : OptR → Word → Word
  spell-OptR no-R k = k
  spell-OptR (in-R s0 x1) k = Token IN_KW s0 ∷ (spell-R x1 k)

  pub spell-OptX : OptX → Word → Word
  spell-OptX no-X k = k
  spell-OptX (index s0 x1 s1) k = Token L_BRACKET s0 ∷ (spell-E x1 (Token R_BRACKET s1 ∷ k))

  pub spell-Ps : Ps → Word → Word
  spell-Ps no-P k = k
  spell-Ps (dot-P s0 x1 x2) k = Token DOT s0 ∷ (spell-P x1 (spell-Ps x2 k))

  pub spell-P : P → Word → Word
  spell-P (primary s0 x1 x2 s1) k = Begin PRIMARY_EXPR s0 ∷ (spell-InP x1 (spell-OptX x2 (End PRIMARY_EXPR s1 ∷ k)))

  pub spell-InP : InP → Word → Word
  spell-InP (name s0) k = Token IDENT s0 ∷ k
  spell-InP (call x0) k = spell-C x0 k

  pub spell-C : C → Word → Word
  spell-C (func_call s0 s1 s2 x3 s3 s4) k = Begin FUNC_CALL s0 ∷ (Token IDENT s1 ∷ (Token L_PAREN s2 ∷ (spell-Args x3 (Token R_PAREN s3 ∷ (End FUNC_CALL s4 ∷ k)))))

  pub spell-Args : Args → Word → Word
  spell-Args no_args k = k
  spell-Args (args x0 x1) k = spell-BE x0 (spell-BEs x1 k)

  pub spell-BEs : BEs → Word → Word
  spell-BEs no-BE k = k
  spell-BEs (comma-BE s0 x1 x2) k = Token COMMA s0 ∷ (spell-BE x1 (spell-BEs x2 k))

  pub spell-R : R → Word → Word
  spell-R (range s0 s1 x2 s2 s3 x5 s4 s5) k = Begin RANGE s0 ∷ (Token L_PAREN s1 ∷ (spell-E x2 (Token DOT s2 ∷ (Token DOT s3 ∷ (spell-E x5 (Token R_PAREN s4 ∷ (End RANGE s5 ∷ k)))))))

  pub spell-Q : Q → Word → Word
  spell-Q (quantifier s0 x1 s1) k = Begin QUANTIFIER s0 ∷ (spell-InQ x1 (End QUANTIFIER s1 ∷ k))

  pub spell-InQ : InQ → Word → Word
  spell-InQ (all s0) k = Token ALL_KW s0 ∷ k
  spell-InQ (any s0) k = Token ANY_KW s0 ∷ k
  spell-InQ (none s0) k = Token NONE_KW s0 ∷ k
  spell-InQ (percent x0 s0) k = spell-T x0 (Token PERCENT s0 ∷ k)
  spell-InQ (number x0) k = spell-E x0 k

  pub spell-S : S → Word → Word
  spell-S (them s0) k = Token THEM_KW s0 ∷ k
  spell-S (set s0 s1 x2 x3 s2 s3) k = Begin PATTERN_IDENT_TUPLE s0 ∷ (Token L_PAREN s1 ∷ (spell-I x2 (spell-Is x3 (Token R_PAREN s2 ∷ (End PATTERN_IDENT_TUPLE s3 ∷ k)))))

  pub spell-I : I → Word → Word
  spell-I (item s0 x1) k = Token PATTERN_IDENT s0 ∷ (spell-OptStar x1 k)

  pub spell-OptStar : OptStar → Word → Word
  spell-OptStar exact k = k
  spell-OptStar (wildcard s0) k = Token ASTERISK s0 ∷ k

  pub spell-Is : Is → Word → Word
  spell-Is no-I k = k
  spell-Is (comma-I s0 x1 x2) k = Token COMMA s0 ∷ (spell-I x1 (spell-Is x2 k))

  pub spell-L : L → Word → Word
  spell-L (iterable s0 x1 s1) k = Begin ITERABLE s0 ∷ (spell-InL x1 (End ITERABLE s1 ∷ k))

  pub spell-InL : InL → Word → Word
  spell-InL (over_range x0) k = spell-R x0 k
  spell-InL (over_tuple s0 s1 x2 x3 s2 s3) k = Begin EXPR_TUPLE s0 ∷ (Token L_PAREN s1 ∷ (spell-E x2 (spell-CEs x3 (Token R_PAREN s2 ∷ (End EXPR_TUPLE s3 ∷ k)))))
  spell-InL (over_expr x0) k = spell-E x0 k

  pub spell-CEs : CEs → Word → Word
  spell-CEs no-CE k = k
  spell-CEs (comma-E s0 x1 x2) k = Token COMMA s0 ∷ (spell-E x1 (spell-CEs x2 k))

  pub spell-F : F → Word → Word
  spell-F (for_expr s0 s1 x2 x3 x4 s2) k = Begin FOR_EXPR s0 ∷ (Token FOR_KW s1 ∷ (spell-Q x2 (spell-InF x3 (spell-G x4 (End FOR_EXPR s2 ∷ k)))))

  pub spell-InF : InF → Word → Word
  spell-InF (for_of s0 x1) k = Token OF_KW s0 ∷ (spell-S x1 k)
  spell-InF (for_in s0 x1 s1 x3) k = Token IDENT s0 ∷ (spell-Vs x1 (Token IN_KW s1 ∷ (spell-L x3 k)))

  pub spell-Vs : Vs → Word → Word
  spell-Vs no-V k = k
  spell-Vs (comma-V s0 s1 x2) k = Token COMMA s0 ∷ (Token IDENT s1 ∷ (spell-Vs x2 k))

  pub spell-G : G → Word → Word
  spell-G (body s0 s1 x2 s2) k = Token COLON s0 ∷ (Token L_PAREN s1 ∷ (spell-BE x2 (Token R_PAREN s2 ∷ k)))

  pub spell-O : O → Word → Word
  spell-O (of_expr s0 x1 s1 x3 x4 s2) k = Begin OF_EXPR s0 ∷ (spell-Q x1 (Token OF_KW s1 ∷ (spell-Items x3 (spell-OptA x4 (End OF_EXPR s2 ∷ k)))))

  pub spell-Items : Items → Word → Word
  spell-Items (of_set x0) k = spell-S x0 k
  spell-Items (of_tuple s0 s1 x2 x3 s2 s3) k = Begin BOOLEAN_EXPR_TUPLE s0 ∷ (Token L_PAREN s1 ∷ (spell-BE x2 (spell-BEs x3 (Token R_PAREN s2 ∷ (End BOOLEAN_EXPR_TUPLE s3 ∷ k)))))

  pub spell-W : W → Word → Word
  spell-W (with_expr s0 s1 s2 x3 x4 s3 x6 s4) k = Begin WITH_EXPR s0 ∷ (Token WITH_KW s1 ∷ (Begin WITH_DECLS s2 ∷ (spell-D x3 (spell-Ds x4 (End WITH_DECLS s3 ∷ (spell-G x6 (End WITH_EXPR s4 ∷ k)))))))

  pub spell-Ds : Ds → Word → Word
  spell-Ds no-D k = k
  spell-Ds (comma-D s0 x1 x2) k = Token COMMA s0 ∷ (spell-D x1 (spell-Ds x2 k))

  pub spell-D : D → Word → Word
  spell-D (with_decl s0 s1 s2 x3 s3) k = Begin WITH_DECL s0 ∷ (Token IDENT s1 ∷ (Token EQUAL s2 ∷ (spell-E x3 (End WITH_DECL s3 ∷ k))))
