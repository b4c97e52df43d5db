-- Worked examples: conditions and their trees.
use Rattle.std.specs.Prelude.{◌≡◌, ℕ, ◌-◌, ◌^◌, Bool, true, false, ℤ, pos, negsuc, Some, None, codes}
use Rattle.kinds.specs.declared.kind.SyntaxKind.TheVariants.{SUB, INTEGER_LIT, STRING_LIT, FLOAT_LIT}
use Rattle.syntax.specs.Spans.{span_of}
use Rattle.syntax.specs.declared.event.Event.TheVariants.{Token}
use Rattle.syntax.specs.declared.span.Span.{Span}
use Rattle.refusal.specs.declared.refusal.Refusal.TheVariants.{InvalidInteger, InvalidEscape, FloatTooLong}
use Rattle.tree.specs.Labels.{plain}
use Rattle.tree.specs.Trees.{Tree}
use Rattle.tree.specs.Trees.Tree.{node}
use Rattle.tree.specs.Trees.Trees.{none, more}
use Rattle.tree.specs.declared.node.NodeKind.TheVariants.{Sub, FieldAccess, Ident, Minus}
use Rattle.operators.specs.Levels.{level_of}
use Rattle.grammar.specs.Words.{Operator}
use Rattle.grammar.specs.Nodes.{name_leaf, alone, integer_label}
use Rattle.grammar.specs.Built.{tree-BE, call_label}
use Rattle.grammar.specs.Tests.{token_refusal, minus_refusal}
use Rattle.grammar.specs.Grammar.{BE, E, Ts, T, InT, P, Ps}
use Rattle.grammar.specs.Grammar.BE.{boolean_expr}
use Rattle.grammar.specs.Grammar.Bs.{no-B}
use Rattle.grammar.specs.Grammar.B.{boolean_term}
use Rattle.grammar.specs.Grammar.InB.{compare}
use Rattle.grammar.specs.Grammar.Es.{no-E}
use Rattle.grammar.specs.Grammar.E.{expr}
use Rattle.grammar.specs.Grammar.Ts.{no-T, op-T}
use Rattle.grammar.specs.Grammar.T.{term}
use Rattle.grammar.specs.Grammar.InT.{integer, minus, parens, chain}
use Rattle.grammar.specs.Grammar.OptX.{no-X}
use Rattle.grammar.specs.Grammar.Ps.{no-P, dot-P}
use Rattle.grammar.specs.Grammar.P.{primary}
use Rattle.grammar.specs.Grammar.InP.{name, call}
use Rattle.grammar.specs.Grammar.C.{func_call}
use Rattle.grammar.specs.Grammar.Args.{no_args}

-- the spans of Begins and Ends have no part in a tree
abbrev any : Span
any = span_of 0 0

abbrev pub subtract : Operator
unfolding level_of
subtract = record { kind = SUB; is = tt }

abbrev identifier : ℕ → ℕ → P
identifier from to = primary any (name (span_of from to)) no-X any

abbrev chained : P → Ps → T
chained p ps = term any (chain p ps) any

abbrev pub variable : ℕ → ℕ → T
variable from to = chained (identifier from to) no-P

abbrev pub list : T → Ts → E
list t ts = expr any t ts any

abbrev pub condition : E → BE
condition e = boolean_expr any (boolean_term any (compare e no-E) any) no-B any

-- the leaf of an identifier
abbrev pub ident : ℕ → ℕ → Tree
ident from to = name_leaf Ident (span_of from to)

-- a - (b - c)
abbrev pub right : BE
right =
    condition (list (variable 0 1) (op-T subtract (span_of 2 3)
    (term any (parens (span_of 4 5) (list (variable 5 6) (op-T subtract (span_of 7 8) (variable 9 10) no-T)) (span_of 10 11)) any) no-T))

-- a - b - c
abbrev pub left : BE
left =
    condition (list (variable 0 1) (op-T subtract (span_of 2 3) (variable 4 5) (op-T subtract (span_of 6 7) (variable 8 9) no-T)))

-- (a - b) - c
abbrev pub left_parens : BE
left_parens =
    condition (list
    (term any (parens (span_of 0 1) (list (variable 1 2) (op-T subtract (span_of 3 4) (variable 5 6) no-T)) (span_of 6 7)) any)
    (op-T subtract (span_of 8 9) (variable 10 11) no-T))

-- a.b().c.d
abbrev pub chain_of_calls : BE
chain_of_calls =
    condition (list (chained (identifier 0 1)
    (dot-P (span_of 1 2) (primary any (call (func_call any (span_of 2 3) (span_of 3 4) no_args (span_of 4 5) any)) no-X any)
    (dot-P (span_of 5 6) (identifier 6 7) (dot-P (span_of 7 8) (identifier 8 9) no-P)))) no-T)

-- a condition of one literal, and of a minus sign and an integer
abbrev lone : InT → BE
lone x = condition (list (term any x any) no-T)

abbrev negative : ℕ → BE
negative to = lone (minus (span_of 0 1) (term any (integer (span_of 1 to)) any))

abbrev whole : ℤ → Bool → ℕ → ℕ → Tree
whole v u n to =
    node (integer_label (record { value = v; unsigned = u; name = span_of 0 n }) (span_of 0 to)) none

pub record Examples : Type 0 where
  pub from_the_right : tree-BE (codes "a - (b - c)") right ≡ node (plain Sub (span_of 0 10)) (more (ident 0 1) (alone (node (plain Sub (span_of 5 10)) (more (ident 5 6) (alone (ident 9 10))))))
  pub from_the_left : tree-BE (codes "a - b - c") left ≡ node (plain Sub (span_of 0 9)) (more (ident 0 1) (more (ident 4 5) (alone (ident 8 9))))
  pub in_parentheses : tree-BE (codes "(a - b) - c") left_parens ≡ node (plain Sub (span_of 1 11)) (more (ident 1 2) (more (ident 5 6) (alone (ident 10 11))))
  pub chain : tree-BE (codes "a.b().c.d") chain_of_calls ≡ node (plain FieldAccess (span_of 2 9)) (more (node (call_label (span_of 2 3) (span_of 4 5) true) (alone (ident 0 1))) (more (ident 6 7) (alone (ident 8 9))))
  pub unsigned : tree-BE (codes "8796093022208MB") (lone (integer (span_of 0 15))) ≡ whole (negsuc (2 ^ 63 - 1)) true 13 15
  pub signed : tree-BE (codes "8796093022207MB") (lone (integer (span_of 0 15))) ≡ whole (pos 9223372036853727232) false 13 15
  pub least : tree-BE (codes "-9223372036854775808") (negative 20) ≡ whole (negsuc (2 ^ 63 - 1)) false 20 20
  pub too_small : minus_refusal (codes "-9223372036854775809") (span_of 0 1) (term any (integer (span_of 1 20)) any) ≡ Some (InvalidInteger (span_of 0 20))
  pub zero : tree-BE (codes "-0") (negative 2) ≡ node (plain Minus (span_of 0 2)) (alone (node (integer_label (record { value = pos 0; unsigned = false; name = span_of 1 2 }) (span_of 1 2)) none))
  pub hexadecimal : tree-BE (codes "0_x1F") (lone (integer (span_of 0 5))) ≡ whole (pos 31) false 5 5
  pub octal : token_refusal (codes "0_o17") (Token INTEGER_LIT (span_of 0 5)) ≡ Some (InvalidInteger (span_of 0 5))
  pub escape : token_refusal (codes "\"\\x4g\"") (Token STRING_LIT (span_of 0 6)) ≡ Some (InvalidEscape (span_of 1 3))
  pub exact : token_refusal (codes "900719925474099.2") (Token FLOAT_LIT (span_of 0 17)) ≡ None
  pub long : token_refusal (codes "900719925474099.3") (Token FLOAT_LIT (span_of 0 17)) ≡ Some (FloatTooLong (span_of 0 17))
