-- How a tree lies in slots: children before parents, siblings and all below them in source order, no gaps, the root last.
use Rattle.std.specs.Prelude.{ℕ, ◌+◌, List, [], ◌∷◌, ◌++◌, length}
use Rattle.tree.specs.declared.slot.Slot.{Slot}
use Rattle.tree.specs.Labels.{own_text, slot_of}
use Rattle.tree.specs.Trees.{Tree, Trees, size, text_of}
use Rattle.tree.specs.Trees.Tree.{node}
use Rattle.tree.specs.Trees.Trees.{none, more}

-- the link to the first of trees that are laid out from slot b: its number and one, or 0 where there is none
abbrev pub first_of : ℕ → Trees → ℕ
first_of b none = 0
first_of b (more t ts) = b + size t

-- the slots from number b and text from place c, with a sibling link for the root
abbrev mutual
  pub lay_tree : Tree → ℕ → ℕ → ℕ → List Slot
  lay_tree (node l ts) b c sibling =
      lay_trees ts b (c + length (own_text l.name)) ++ (slot_of l c (first_of b ts) sibling ∷ [])

  pub lay_trees : Trees → ℕ → ℕ → List Slot
  lay_trees none b c = []
  lay_trees (more t ts) b c =
      lay_tree t b c (first_of (b + size t) ts) ++ lay_trees ts (b + size t) (c + length (text_of t))

-- a whole tree's slots
abbrev pub layout : Tree → List Slot
layout t = lay_tree t 0 0 0
