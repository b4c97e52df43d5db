-- What the reading calls answer of a tree that slots hold.
use Rattle.std.specs.Prelude.{◌≡◌, ℕ, ◌+◌, ◌≤◌, false, ◌⊎◌, List, length, Some, None, Option}
use Rattle.std.specs.Option.{option_map}
use Rattle.tree.specs.declared.read.Origin.{Origin}
use Rattle.tree.specs.declared.read.Origin.TheVariants.{Source, Decoded}
use Rattle.tree.specs.declared.slot.Slot.{Slot}
use Rattle.tree.specs.Labels.{Name, Label, is_decoded}
use Rattle.tree.specs.Labels.Name.{in_source, decoded}
use Rattle.tree.specs.Reads.{Leaf, Reading, reading_of}
use Rattle.tree.specs.Reads.Leaf.{name, string, regexp, number}
use Rattle.tree.specs.Reads.Reading.{as_name, as_string, as_regexp, as_number, not_read}
use Rattle.tree.specs.Trees.{Trees}
use Rattle.tree.specs.Trees.Tree.{node}
use Rattle.tree.specs.Trees.Trees.{none, more}
use Rattle.tree.specs.Holds.{Holds, bytes_named}

abbrev pub origin_named : Name → Origin
origin_named (in_source p) = Source
origin_named (decoded bytes) = Decoded

-- what a label says by bytes; a string's value stands at some place
abbrev pub leaf_said : Reading → List ℕ → Label → ℕ → Option Leaf
leaf_said as_name source l place = option_map name (bytes_named source l.name)
leaf_said as_string source l place = option_map (λ p. string (origin_named l.name) p place) (bytes_named source l.name)
leaf_said as_regexp source l place =
    option_map (λ p. regexp p l.flags.case_insensitive l.flags.dot_matches_new_line) (bytes_named source l.name)
leaf_said as_number source l place = option_map (λ p. number l.value l.flags.unsigned p) (bytes_named source l.name)
leaf_said not_read source l place = None

-- only a string's name is decoded
abbrev pub Decodes : Label → Type 0
Decodes l = (reading_of l.kind ≡ as_string) ⊎ (is_decoded l.name ≡ false)

-- the content of a slot that holds a tree is what the tree's label says
abbrev pub Tells : List Slot → ℕ → List ℕ → List ℕ → Option Leaf → Type 0
Tells slots n source text r =
    (l : Label) (ts : Trees) → Holds slots text n (node l ts) → Decodes l
    → (place : ℕ) × (r ≡ leaf_said (reading_of l.kind) source l place)

abbrev pub count : Trees → ℕ
count none = 0
count (more t ts) = count ts + 1

-- a slot that holds a tree has as many children as the tree
abbrev pub Counts : List Slot → ℕ → Option ℕ → Type 0
Counts slots n r =
    (text : List ℕ) (l : Label) (ts : Trees) → Holds slots text n (node l ts) → count ts ≤ length slots → r ≡ Some (count ts)
