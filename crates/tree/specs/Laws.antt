-- What holds of layouts, and what the placing calls do to a tree that is being placed.
use Rattle.std.specs.Prelude.{◌≡◌, ℕ, ◌+◌, ◌-◌, ◌^◌, ◌<◌, ◌≤◌, List, [], ◌∷◌, ◌++◌, length}
use Rattle.tree.specs.declared.slot.Slot.{Slot}
use Rattle.tree.specs.Labels.{blank_slot}
use Rattle.tree.specs.Trees.{Tree, below, size, sizes, text_of}
use Rattle.tree.specs.Layout.{layout}
use Rattle.lent.specs.Lists.{fit}
use Rattle.tree.specs.Memory.{Memory, Pending, grown, texted, laid}
use Rattle.tree.specs.Holds.{Holds, reached, up_from}

-- the layout holds its tree from its last slot
abbrev pub LayoutHolds : Type 0
LayoutHolds = (t : Tree) → Holds (layout t) (text_of t) (size t - 1) t

-- what slots hold from a number is one tree
abbrev pub OneTree : Type 0
OneTree =
    (slots : List Slot) (text : List ℕ) (n : ℕ) (t u : Tree) → Holds slots text n t → Holds slots text n u → t ≡ u

-- a layout has a slot for each node, and each is reached from the root once: following the links comes by the numbers 0, 1, 2, ..
-- in order
pub record ReachedOnce : Type 0 where
  pub slots : (t : Tree) → length (layout t) ≡ size t
  pub order :
      (t : Tree) (h : Holds (layout t) (text_of t) (size t - 1) t) → reached (layout t) (text_of t) (size t - 1) t h ≡ up_from 0 (size t)

-- a root that is placed completes its tree
abbrev pub Lays : Slot → Memory → Memory → Type 0
Lays root m m' = (t : Tree) (m₀ : Memory) → Pending t m₀ root m → m.used + 1 < 2 ^ 64 → m' ≡ laid t m₀

-- a root that a parent adopts is its tree's next child; if the parent has children, all slots up to the last of them were
-- used when it was put aside
abbrev pub Grows : Slot → ℕ → Slot → Memory → Slot → Memory → Type 0
Grows parent last root m root' m' =
    (t u : Tree) (m₀ m₁ : Memory) → Pending t m₀ parent m₁ → (0 < sizes (below t) → last ≡ m₁.used) → Pending u m₁ root m
    → m.used + 1 < 2 ^ 64 → Pending (grown t u) m₀ root' m'

-- a byte that is written goes on with the bytes written before it
abbrev pub Writes : ℕ → Memory → Memory → Type 0
Writes byte m m' =
    (bytes : List ℕ) (m₀ : Memory) → m ≡ texted bytes m₀ → m.written + 1 < 2 ^ 64 → m' ≡ texted (bytes ++ (byte ∷ [])) m₀

-- memory that holds a whole tree as far as it goes in, and else is blank
pub record Done (t : Tree) (m₀ m' : Memory) : Type 0 where
  pub slots : m'.slots ≡ fit blank_slot (length m₀.slots) (layout t)
  pub used : m'.used ≡ size t
  pub text : m'.text ≡ fit 0 (length m₀.text) (text_of t)
  pub written : m'.written ≡ length (text_of t)
  pub held :
      size t ≤ length m₀.slots → length (text_of t) ≤ length m₀.text → Holds m'.slots m'.text (size t - 1) t
  pub once :
      size t ≤ length m₀.slots → (h : Holds m'.slots m'.text (size t - 1) t) → reached m'.slots m'.text (size t - 1) t h ≡ up_from 0 (size t)

-- a tree that was laid out from the start of the memory is then all that it holds
abbrev pub Completes : Memory → Memory → Type 0
Completes m m' = (t : Tree) (m₀ : Memory) → m₀.used ≡ 0 → m₀.written ≡ 0 → m ≡ laid t m₀ → Done t m₀ m'
