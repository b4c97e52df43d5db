-- How nodes grow in a placer.
use Rattle.std.specs.Prelude.{◌≡◌, ℕ, ◌+◌, ◌^◌, ◌<◌, ◌≤◌, false, cond}
use Rattle.std.specs.Option.{unwrap_or}
use Rattle.syntax.specs.declared.span.Span.{Span}
use Rattle.kinds.specs.declared.kind.SyntaxKind.{SyntaxKind}
use Rattle.tree.specs.declared.node.NodeKind.TheVariants.{Blank}
use Rattle.tree.specs.declared.place.Aside.{Aside}
use Rattle.tree.specs.declared.place.Placer.{Placer}
use Rattle.tree.specs.declared.slot.Slot.{Slot}
use Rattle.tree.specs.Labels.{Label, slot_of, is_decoded}
use Rattle.tree.specs.Trees.{Tree, Trees, label_at, below, sizes}
use Rattle.tree.specs.Trees.Tree.{node}
use Rattle.tree.specs.Trees.Trees.{none, more}
use Rattle.tree.specs.Memory.{Memory, memory_of, Lent, Pending}
use Rattle.operators.specs.Nodes.{node_of, merging_of, is}
use Rattle.grammar.specs.Nodes.{span_of_tree, alone, unary, longer, further}

-- the same memory, with at most n slots more in use, and the text as it was
pub record Grew (n : ℕ) (o o' : Placer) : Type 0 where
  pub lent : Lent o o'
  pub used : o'.used ≤ o.used + n
  pub text : o'.text.now ≡ o.text.now
  pub written : o'.written ≡ o.written

-- if the root was that of a tree, it is then that of a tree made from it, behind the same memory
abbrev pub Extends : (Tree → Tree) → Placer → Placer → Type 0
Extends g o o' =
    (t : Tree) (m : Memory) → Pending t m o.root (memory_of o) → Pending (g t) m o'.root (memory_of o')

-- the root becomes that of another tree, with at most n slots more in use
pub record Changes (n : ℕ) (g : Tree → Tree) (o o' : Placer) : Type 0 where
  pub grew : Grew n o o'
  pub law : o.used + n < 2 ^ 64 → Extends g o o'

-- all of a tree is placed but its root, which was put aside
pub record Waits (t : Tree) (m : Memory) (a : Aside) (m' : Memory) : Type 0 where
  pub pending : Pending t m a.root m'
  pub last : 0 < sizes (below t) → a.last ≡ m'.used

-- the root becomes a further child of a node put aside, which is the root then
pub record Furthers (a : Aside) (o o' : Placer) : Type 0 where
  pub grew : Grew 1 o o'
  pub law :
      (t u : Tree) (m m₁ : Memory) → Waits t m a m₁ → Pending u m₁ o.root (memory_of o) → o.used + 1 < 2 ^ 64 →
      Pending (further t u) m o'.root (memory_of o')

-- further trees below a tree, up to the end of the last of them
abbrev pub furthers : Tree → Trees → Tree
furthers t none = t
furthers t (more u us) = furthers (further t u) us

-- a tree whose root reaches from elsewhere to elsewhere
abbrev pub respan : Tree → Span → Tree
respan (node l ts) p = node (record l { span = p }) ts

-- a slot holds a label with no text of its own, and has nothing below it
pub record Bare (l : Label) (s : Slot) : Type 0 where
  pub slot : s ≡ slot_of l 0 0 0
  pub in_source : is_decoded l.name ≡ false

-- a node above a tree, to whose end it reaches
abbrev pub over : Label → Tree → Tree
over l t = node (longer l (label_at t)) (alone t)

-- the root becomes the only child of a node that had none
pub record Raises (s : Slot) (o o' : Placer) : Type 0 where
  pub grew : Grew 1 o o'
  pub law : (l : Label) → Bare l s → o.used + 1 < 2 ^ 64 → Extends (over l) o o'

-- what an operator's right side goes behind: a left side that it goes on with, else a new node above that
abbrev pub opened_by : SyntaxKind → Tree → Tree
opened_by k t =
    cond (is (merging_of k) (label_at t).kind) t (unary (unwrap_or (node_of k) Blank) (span_of_tree t) t)
