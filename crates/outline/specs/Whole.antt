-- What is written of a whole tree.
use Rattle.std.specs.Prelude.{◌≡◌, ℕ, ◌+◌, ◌-◌, List, [], ◌++◌, length}
use Rattle.tree.specs.declared.slot.Slot.{Slot}
use Rattle.tree.specs.Labels.{own_text, slot_of}
use Rattle.tree.specs.Trees.{Tree, Trees, size, text_of}
use Rattle.tree.specs.Trees.Tree.{node}
use Rattle.tree.specs.Trees.Trees.{none, more}
use Rattle.tree.specs.Layout.{layout}
use Rattle.outline.specs.declared.print.Shown.{Shown}
use Rattle.outline.specs.Shown.{node_text, enter_text, leave_text, separator}

-- what stands around the trees below a node, if there are any
abbrev pub around : Shown → Trees → List ℕ → List ℕ
around v none text = []
around v (more t ts) text = enter_text v.form ++ (text ++ leave_text v.form)

-- what stands before further trees, if there are any
abbrev pub before_more : Shown → Trees → List ℕ
before_more v none = []
before_more v (more t ts) = separator v.form

-- a tree at a depth: its label, and the trees below it one deeper. Its decoded text starts at c
abbrev mutual
  pub tree_written : Shown → ℕ → ℕ → Tree → List ℕ
  tree_written v depth c (node l ts) =
      node_text v depth (slot_of l c 0 0) ++ around v ts (trees_written v (depth + 1) (c + length (own_text l.name)) ts)

  pub trees_written : Shown → ℕ → ℕ → Trees → List ℕ
  trees_written v depth c none = []
  trees_written v depth c (more t ts) =
      tree_written v depth c t ++ (before_more v ts ++ trees_written v depth (c + length (text_of t)) ts)

-- of slots that begin with a tree's layout, all of the tree is written from its root, and no link is broken
abbrev pub Whole : Shown → List ℕ → Type 0
Whole v written =
    (t : Tree) (others : List Slot) → v.tree.slots.now ≡ layout t ++ others → v.number ≡ size t - 1 → written ≡ tree_written v 0 0 t
