-- That slots hold a tree, by their links alone; and a tree's shape.
use Rattle.std.specs.Prelude.{◌≡◌, ℕ, zero, suc, ◌+◌, cond, List, [], ◌∷◌, ◌++◌, ℤ, Some, Option, Float}
use Rattle.std.specs.List.{slice_get}
use Rattle.syntax.specs.declared.span.Span.{Span}
use Rattle.tree.specs.declared.node.NodeKind.{NodeKind}
use Rattle.tree.specs.declared.node.NodeKind.TheVariants.{LiteralInteger}
use Rattle.tree.specs.declared.slot.Slot.{Slot}
use Rattle.tree.specs.Kinds.{same}
use Rattle.tree.specs.Labels.{Flags, Name, Label, is_decoded, flag_number}
use Rattle.tree.specs.Labels.Name.{in_source, decoded}
use Rattle.tree.specs.Parts.{cut}
use Rattle.tree.specs.Trees.{Tree, Trees}
use Rattle.tree.specs.Trees.Tree.{node}
use Rattle.tree.specs.Trees.Trees.{none, more}

-- a name span says a name
abbrev pub Names : List ℕ → Span → Name → Type 0
Names text p (in_source q) = p ≡ q
Names text p (decoded bytes) = cut text p ≡ Some bytes

-- a slot says all that a label does
pub record Shows (text : List ℕ) (s : Slot) (l : Label) : Type 0 where
  pub kind : s.kind ≡ l.kind
  pub span : s.span ≡ l.span
  pub name : Names text s.name l.name
  pub value : s.value ≡ l.value
  pub flags : s.flags ≡ flag_number l.flags (is_decoded l.name)
  pub float : s.float ≡ l.float

-- from slot n the slots hold a tree: it says the label, and its first child's link leads to the trees below
-- a link leads to trees: to none if it is 0, else to a slot that holds the first and whose sibling's link leads to the others
abbrev mutual
  pub Holds : List Slot → List ℕ → ℕ → Tree → Type 0
  Holds slots text n (node l ts) =
      (s : Slot) × (slice_get slots n ≡ Some s) × Shows text s l × Chain slots text s.first ts

  pub Chain : List Slot → List ℕ → ℕ → Trees → Type 0
  Chain slots text link none = link ≡ 0
  Chain slots text link (more t ts) =
      (n : ℕ) × (s : Slot) × (link ≡ n + 1) × (slice_get slots n ≡ Some s) × Holds slots text n t
      × Chain slots text s.next ts

-- the numbers of the slots that links lead to from slot n, which holds a tree; its own last
module _ (slots : List Slot) (text : List ℕ) where
  abbrev mutual
    pub reached : (n : ℕ) (t : Tree) → Holds slots text n t → List ℕ
    reached n (node l ts) h = reached_by h.0.first ts h.3 ++ (n ∷ [])

    pub reached_by : (link : ℕ) (ts : Trees) → Chain slots text link ts → List ℕ
    reached_by link none h = []
    reached_by link (more t ts) h = reached h.0 t h.4 ++ reached_by h.1.next ts h.5

-- k numbers from n on
abbrev pub up_from : ℕ → ℕ → List ℕ
up_from n zero = []
up_from n (suc k) = n ∷ up_from (n + 1) k

-- what is left of a label without its places and an integer's text
pub record Outlined : Type 0 where
  pub kind : NodeKind
  pub name : Option (List ℕ)
  pub value : ℤ
  pub flags : Flags
  pub float : Float

-- a tree's shape: the bytes of its names, strings and regexps, and no places
mutual
  pub data Shape : Type 0 where
    shape : Outlined → Shapes → Shape

  pub data Shapes : Type 0 where
    nothing : Shapes
    further : Shape → Shapes → Shapes

abbrev pub bytes_named : List ℕ → Name → Option (List ℕ)
bytes_named source (in_source p) = cut source p
bytes_named source (decoded bytes) = Some bytes

abbrev pub outlined : List ℕ → Label → Outlined
outlined source l =
    record {
      kind = l.kind;
      name = cond (same l.kind LiteralInteger) (Some []) (bytes_named source l.name);
      value = l.value;
      flags = l.flags;
      float = l.float;
    }

abbrev mutual
  pub shape_of : List ℕ → Tree → Shape
  shape_of source (node l ts) = shape (outlined source l) (shapes_of source ts)

  pub shapes_of : List ℕ → Trees → Shapes
  shapes_of source none = nothing
  shapes_of source (more t ts) = further (shape_of source t) (shapes_of source ts)
