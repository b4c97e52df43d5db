-- What is shown of groupings and of merging.
use Rattle.std.specs.Prelude.{◌≡◌, ℕ, ◌<◌, ◌≤◌, true, Some}
use Rattle.kinds.specs.declared.kind.SyntaxKind.{SyntaxKind}
use Rattle.operators.specs.Levels.{level_of, is_operator, strength}
use Rattle.operators.specs.Groups.{Ops, joined, Each, left_comb, grouped, OneGrouping}
use Rattle.operators.specs.Groups.Ops.{lone}
use Rattle.operators.specs.Groups.Group.{top}
use Rattle.operators.specs.Merges.{Making, join_trees, opened, tree_of}

-- whatever the levels, every operator list has one grouping that keeps the rule
abbrev pub AlwaysOneGrouping : Type 0 → Type 0 → Type 0
AlwaysOneGrouping Operand Op = (level : Op → ℕ) (x : Ops Operand Op) → OneGrouping level x (grouped level x)

-- the levels that count are those of the table, and one grouping keeps the rule
pub record ByTable {Operand : Type 0} (x : Ops Operand SyntaxKind) : Type 0 where
  pub levels : Each (λ o. level_of o ≡ Some (strength o)) x
  pub one : OneGrouping strength x (grouped strength x)

-- by YARA's levels every list of its operators has one grouping that keeps the rule
abbrev pub OneByTable : Type 0 → Type 0
OneByTable Operand = (x : Ops Operand SyntaxKind) → Each (λ o. is_operator o ≡ true) x → ByTable x

-- where all operators have one level, only the grouping from the left keeps the rule
abbrev pub FromTheLeft : Type 0 → Type 0 → Type 0
FromTheLeft Operand Op =
    (level : Op → ℕ) (n : ℕ) (x : Ops Operand Op) → Each (λ o. level o ≡ n) x → OneGrouping level x (left_comb x)

module _ {Operand Op : Type 0} (level : Op → ℕ) where
  -- no operator of x is weaker than o, and every one of y is stronger
  pub record Between (x : Ops Operand Op) (o : Op) (y : Ops Operand Op) : Type 0 where
    pub left : Each (λ p. level o ≤ level p) x
    pub right : Each (λ p. level o < level p) y

-- how the grouping of a list comes from those of its parts, read from the left
pub record Climbs {Operand Op : Type 0} (level : Op → ℕ) (x : Ops Operand Op) (o : Op) (y : Ops Operand Op) : Type 0 where
  -- the operator between them is the top
  pub group : grouped level (joined x o y) ≡ top (grouped level x) o (grouped level y)
  -- an operator that is not stronger can come next
  pub next : (p : Op) → level p ≤ level o → Each (λ q. level p ≤ level q) (joined x o y)
  -- a bound on the operators of x, and on the one between, is one on all
  pub least : (n : ℕ) → n ≤ level o → Each (λ q. n ≤ level q) x → Each (λ q. n ≤ level q) (joined x o y)

abbrev pub Climbing : Type 0 → Type 0 → Type 0
Climbing Operand Op =
    (level : Op → ℕ) (x : Ops Operand Op) (o : Op) (y : Ops Operand Op) → Between level x o y → Climbs level x o y

-- how the tree of a list comes from those of its parts, at once and in the two steps of a reader
pub record Joins {Tree Op : Type 0} (trees : Making Tree Op) (level : Op → ℕ) (x : Ops Tree Op) (o : Op) (y : Ops Tree Op) : Type 0 where
  pub tree : tree_of trees level (joined x o y) ≡ join_trees trees o (tree_of trees level x) (tree_of trees level y)
  pub steps : tree_of trees level (joined x o y) ≡ trees.behind (opened trees o (tree_of trees level x)) (tree_of trees level y)

abbrev pub Joining : Type 0 → Type 0 → Type 0
Joining Tree Op =
    (trees : Making Tree Op) (level : Op → ℕ) (x : Ops Tree Op) (o : Op) (y : Ops Tree Op) → Between level x o y
    → Joins trees level x o y

-- parentheses around the left side of a top, or around its right side, change nothing
pub record Unchanged {Tree Op : Type 0} (trees : Making Tree Op) (level : Op → ℕ) (x : Ops Tree Op) (o : Op) (y : Ops Tree Op) : Type 0 where
  pub left : tree_of trees level (joined (lone (tree_of trees level x)) o y) ≡ tree_of trees level (joined x o y)
  pub right : tree_of trees level (joined x o (lone (tree_of trees level y))) ≡ tree_of trees level (joined x o y)

abbrev pub Parentheses : Type 0 → Type 0 → Type 0
Parentheses Tree Op =
    (trees : Making Tree Op) (level : Op → ℕ) (x : Ops Tree Op) (o : Op) (y : Ops Tree Op) → Between level x o y
    → Unchanged trees level x o y
