-- Trees of labels.
use Rattle.std.specs.Prelude.{ℕ, ◌+◌, List, [], ◌++◌}
use Rattle.tree.specs.Labels.{Label, own_text}

-- a label, and the trees below it in source order
mutual
  pub data Tree : Type 0 where
    node : Label → Trees → Tree

  pub data Trees : Type 0 where
    none : Trees
    more : Tree → Trees → Trees

abbrev pub label_at : Tree → Label
label_at (node l ts) = l

abbrev pub below : Tree → Trees
below (node l ts) = ts

-- a further tree behind the others
abbrev pub behind : Trees → Tree → Trees
behind none t = more t none
behind (more u ts) t = more u (behind ts t)

-- how many nodes
abbrev mutual
  pub size : Tree → ℕ
  size (node l ts) = sizes ts + 1

  pub sizes : Trees → ℕ
  sizes none = 0
  sizes (more t ts) = size t + sizes ts

-- the decoded text in source order
abbrev mutual
  pub text_of : Tree → List ℕ
  text_of (node l ts) = own_text l.name ++ texts_of ts

  pub texts_of : Trees → List ℕ
  texts_of none = []
  texts_of (more t ts) = text_of t ++ texts_of ts
