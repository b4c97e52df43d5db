-- The nodes that operators make.
use Rattle.std.specs.Prelude.{◌≡◌, Bool, false, cond, List, [], ◌∷◌, Some, None, Option}
use Rattle.kinds.specs.Kinds.{same}
use Rattle.kinds.specs.declared.kind.SyntaxKind.{SyntaxKind}
use Rattle.kinds.specs.declared.kind.SyntaxKind.TheVariants.{OR_KW, AND_KW, EQ, NE, CONTAINS_KW, ICONTAINS_KW, STARTSWITH_KW, ISTARTSWITH_KW, ENDSWITH_KW, IENDSWITH_KW, IEQUALS_KW, MATCHES_KW, LT, LE, GT, GE, BITWISE_OR, BITWISE_XOR, BITWISE_AND, SHL, SHR, ADD, SUB, MUL, DIV, MOD, DOT}
use Rattle.tree.specs.Kinds as node_kinds
use Rattle.tree.specs.declared.node.NodeKind.{NodeKind}
use Rattle.tree.specs.declared.node.NodeKind.TheVariants as kind

-- an operator, and the kind of its node
pub record Made : Type 0 where
  pub op : SyntaxKind
  pub node : NodeKind

abbrev pub makes : SyntaxKind → NodeKind → Made
makes k n = record { op = k; node = n }

-- each operator with its node
abbrev pub nodes : List Made
nodes =
    makes OR_KW kind.Or
    ∷ makes AND_KW kind.And
    ∷ makes EQ kind.Eq
    ∷ makes NE kind.Ne
    ∷ makes CONTAINS_KW kind.Contains
    ∷ makes ICONTAINS_KW kind.IContains
    ∷ makes STARTSWITH_KW kind.StartsWith
    ∷ makes ISTARTSWITH_KW kind.IStartsWith
    ∷ makes ENDSWITH_KW kind.EndsWith
    ∷ makes IENDSWITH_KW kind.IEndsWith
    ∷ makes IEQUALS_KW kind.IEquals
    ∷ makes MATCHES_KW kind.Matches
    ∷ makes LT kind.Lt
    ∷ makes LE kind.Le
    ∷ makes GT kind.Gt
    ∷ makes GE kind.Ge
    ∷ makes BITWISE_OR kind.BitwiseOr
    ∷ makes BITWISE_XOR kind.BitwiseXor
    ∷ makes BITWISE_AND kind.BitwiseAnd
    ∷ makes SHL kind.Shl
    ∷ makes SHR kind.Shr
    ∷ makes ADD kind.Add
    ∷ makes SUB kind.Sub
    ∷ makes MUL kind.Mul
    ∷ makes DIV kind.Div
    ∷ makes MOD kind.Mod
    ∷ makes DOT kind.FieldAccess
    ∷ []

-- the operators that merge, each with the kind of left side that it goes on with
abbrev pub merges : List Made
merges =
    makes OR_KW kind.Or
    ∷ makes AND_KW kind.And
    ∷ makes ADD kind.Add
    ∷ makes SUB kind.Sub
    ∷ makes MUL kind.Mul
    ∷ makes DIV kind.Div
    ∷ makes MOD kind.Mod
    ∷ makes DOT kind.FieldAccess
    ∷ []

-- what a table has for a kind
abbrev pub made_by : List Made → SyntaxKind → Option NodeKind
made_by [] k = None
made_by (m ∷ ms) k = cond (same k m.op) (Some m.node) (made_by ms k)

-- the kind of node that an operator makes
unfoldable pub node_of : SyntaxKind → Option NodeKind
node_of k = made_by nodes k

-- the kind of node that an operator merges into, if it merges
unfoldable pub merging_of : SyntaxKind → Option NodeKind
merging_of k = made_by merges k

-- what an operator merges into is its own node
abbrev pub Own : SyntaxKind → Option NodeKind → Type 0
Own k None = Unit {0}
Own k (Some n) = node_of k ≡ Some n

-- whether there is a kind, and it is this one
abbrev pub is : Option NodeKind → NodeKind → Bool
is None k = false
is (Some n) k = node_kinds.same n k
