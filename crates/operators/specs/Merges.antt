-- Merging: the tree of an operator list, over any trees.
use Rattle.std.specs.Prelude.{ℕ, Bool, cond, Option}
use Rattle.tree.specs.declared.node.NodeKind.{NodeKind}
use Rattle.operators.specs.Nodes.{is}
use Rattle.operators.specs.Groups.{Ops, Group, grouped}
use Rattle.operators.specs.Groups.Group.{leaf, top}

-- what merging has to know of trees and operators
pub record Making (Tree Op : Type 0) : Type 0 where
  -- what a tree's topmost node is
  pub kind_at : Tree → NodeKind
  -- the kind of node that an operator merges into, if it merges
  pub merging : Op → Option NodeKind
  -- an operator's new node, with the one operand that it has so far
  pub above : Op → Tree → Tree
  -- a tree with a further last operand, the second tree
  pub behind : Tree → Tree → Tree

module _ {Tree Op : Type 0} (trees : Making Tree Op) where
  -- whether an operator merges and a tree has its kind
  abbrev pub goes_on : Op → Tree → Bool
  goes_on o t = is (trees.merging o) (trees.kind_at t)

  -- the right tree becomes the last operand of the left one where that merges, else of a new node above the left one
  abbrev pub join_trees : Op → Tree → Tree → Tree
  join_trees o l r = cond (goes_on o l) (trees.behind l r) (trees.behind (trees.above o l) r)

  -- the tree of a grouping
  abbrev pub merged : Group Tree Op → Tree
  merged (leaf t) = t
  merged (top l o r) = join_trees o (merged l) (merged r)

  -- the tree of an operator list; parentheses around a list leave nothing but its tree, as an operand of another list
  unfoldable pub tree_of : (Op → ℕ) → Ops Tree Op → Tree
  tree_of level x = merged (grouped level x)

  -- the left side once its operator is read, and the right side is not: the tree that the right side goes behind
  abbrev pub opened : Op → Tree → Tree
  opened o l = cond (goes_on o l) l (trees.above o l)
