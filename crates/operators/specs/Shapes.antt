-- Merging at work, on the least trees that show it.
use Rattle.std.specs.Prelude.{◌≡◌, ℕ}
use Rattle.std.specs.Option.{unwrap_or}
use Rattle.kinds.specs.declared.kind.SyntaxKind.{SyntaxKind}
use Rattle.kinds.specs.declared.kind.SyntaxKind.TheVariants.{OR_KW, AND_KW, EQ, SUB, MUL, DOT}
use Rattle.tree.specs.declared.node.NodeKind.{NodeKind}
use Rattle.tree.specs.declared.node.NodeKind.TheVariants.{Blank, Ident, FieldAccess, Or, And, Eq, Sub, Mul}
use Rattle.operators.specs.Levels.{strength}
use Rattle.operators.specs.Nodes.{node_of, merging_of}
use Rattle.operators.specs.Groups.{Ops}
use Rattle.operators.specs.Groups.Ops.{lone, then}
use Rattle.operators.specs.Merges.{Making, tree_of}

-- a kind, a name where it is an identifier, and the operands
mutual
  pub data Shape : Type 0 where
    node : NodeKind → ℕ → Shapes → Shape

  pub data Shapes : Type 0 where
    none : Shapes
    more : Shape → Shapes → Shapes

abbrev pub kind_at : Shape → NodeKind
kind_at (node k n ss) = k

abbrev pub last : Shapes → Shape → Shapes
last none t = more t none
last (more s ss) t = more s (last ss t)

abbrev pub behind : Shape → Shape → Shape
behind (node k n ss) t = node k n (last ss t)

abbrev pub shapes : Making Shape SyntaxKind
shapes =
    record {
      kind_at = kind_at;
      merging = merging_of;
      above = λ o s. node (unwrap_or (node_of o) Blank) 0 (more s none);
      behind = behind;
    }

abbrev pub name : ℕ → Shape
name n = node Ident n none

abbrev pub two : NodeKind → Shape → Shape → Shape
two k s t = node k 0 (more s (more t none))

abbrev pub three : NodeKind → Shape → Shape → Shape → Shape
three k s t u = node k 0 (more s (more t (more u none)))

-- s o t, and s o t p u
abbrev pub pair : Shape → SyntaxKind → Shape → Ops Shape SyntaxKind
pair s o t = then s o (lone t)

abbrev pub triple : Shape → SyntaxKind → Shape → SyntaxKind → Shape → Ops Shape SyntaxKind
triple s o t p u = then s o (pair t p u)

-- the shape of a list by YARA's operators; as an operand, it is the list in parentheses
abbrev pub shape : Ops Shape SyntaxKind → Shape
shape x = tree_of shapes strength x

-- for any three operands that are names
pub record Shown (a b c : Shape) : Type 0 where
  -- a - b - c
  pub plain : shape (triple a SUB b SUB c) ≡ three Sub a b c
  -- (a - b) - c
  pub left : shape (pair (shape (pair a SUB b)) SUB c) ≡ three Sub a b c
  -- a - (b - c)
  pub right : shape (pair a SUB (shape (pair b SUB c))) ≡ two Sub a (two Sub b c)
  -- so the last is another shape than the first two
  pub other : shape (pair a SUB (shape (pair b SUB c))) ≡ shape (triple a SUB b SUB c) → ⊥
  -- a.b.c
  pub dotted : shape (triple a DOT b DOT c) ≡ three FieldAccess a b c
  -- a == b == c: comparisons do not merge
  pub compared : shape (triple a EQ b EQ c) ≡ two Eq (two Eq a b) c
  -- a or b and c, and a and b or c
  pub stronger : shape (triple a OR_KW b AND_KW c) ≡ two Or a (two And b c)
  pub weaker : shape (triple a AND_KW b OR_KW c) ≡ two Or (two And a b) c
  -- a - b * c, and (a - b) * c
  pub inner : shape (triple a SUB b MUL c) ≡ two Sub a (two Mul b c)
  pub outer : shape (pair (shape (pair a SUB b)) MUL c) ≡ two Mul (two Sub a b) c

abbrev pub Examples : Type 0
Examples = (a b c : ℕ) → Shown (name a) (name b) (name c)
