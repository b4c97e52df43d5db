-- Lent memory that a tree is placed in, node by node. The counters go on where the memory is full.
use Rattle.std.specs.Prelude.{◌≡◌, ℕ, zero, suc, ◌+◌, cond, List, [], ◌∷◌, length, replicate, ◌==◌, slice_set}
use Rattle.lent.specs.Lists.{counted, overlay, blanked_from}
use Rattle.tree.specs.declared.slot.Slot.{Slot}
use Rattle.tree.specs.declared.place.Placer.{Placer}
use Rattle.tree.specs.Labels.{own_text, slot_of, blank_slot}
use Rattle.tree.specs.Trees.{Tree, size, sizes, behind, text_of}
use Rattle.tree.specs.Trees.Tree.{node}
use Rattle.tree.specs.Layout.{first_of, lay_tree, lay_trees}

-- slots and text with what is used of them, or would be if there were enough
pub record Memory : Type 0 where
  pub slots : List Slot
  pub used : ℕ
  pub text : List ℕ
  pub written : ℕ

abbrev pub memory_of : Placer → Memory
memory_of p = record { slots = p.slots.now; used = p.used; text = p.text.now; written = p.written }

abbrev pub with_first : Slot → ℕ → Slot
with_first s n = record s { first = n }

abbrev pub with_next : Slot → ℕ → Slot
with_next s n = record s { next = n }

-- slot i, if there is one, gets a sibling
abbrev pub set_next : List Slot → ℕ → ℕ → List Slot
set_next [] i n = []
set_next (s ∷ m) zero n = with_next s n ∷ m
set_next (s ∷ m) (suc i) n = s ∷ set_next m i n

-- the slot that a link leads to, if there is one, gets a sibling
abbrev pub linked : List Slot → ℕ → ℕ → List Slot
linked m zero n = m
linked m (suc i) n = set_next m i n

-- a slot behind those that are used
abbrev pub placed : Slot → Memory → Memory
placed s m = record m { slots = slice_set m.slots m.used s; used = counted m.used }

-- a byte behind the text that is written
abbrev pub pushed : ℕ → Memory → Memory
pushed byte m = record m { text = slice_set m.text m.written byte; written = counted m.written }

-- bytes behind the text that is written
abbrev pub texted : List ℕ → Memory → Memory
texted bytes m = record m { text = overlay m.text m.written bytes; written = m.written + length bytes }

-- blanks behind what is used
abbrev pub tidied : Memory → Memory
tidied m =
    record m { slots = blanked_from blank_slot m.used m.slots; text = blanked_from 0 m.written m.text }

-- blanks everywhere
abbrev pub cleared : Memory → Memory
cleared m =
    record {
      slots = replicate (length m.slots) blank_slot;
      used = 0;
      text = replicate (length m.text) 0;
      written = 0;
    }

-- a parent with a further child at a link: its first, or the sibling of the last one before
abbrev pub adopted_root : Slot → ℕ → Slot
adopted_root parent link = cond (parent.first == 0) (with_first parent link) parent

abbrev pub adopted_slots : Slot → ℕ → ℕ → List Slot → List Slot
adopted_slots parent last link m = cond (parent.first == 0) m (linked m last link)

abbrev pub adopted : Slot → ℕ → Slot → Memory → Memory
adopted parent last child m =
    record m {
      slots = adopted_slots parent last (counted m.used) (slice_set m.slots m.used child);
      used = counted m.used;
    }

-- the same memory is lent
pub record Lent (p p' : Placer) : Type 0 where
  pub slots : p'.slots.ghost_name ≡ p.slots.ghost_name
  pub text : p'.text.ghost_name ≡ p.text.ghost_name

-- a call leaves this memory and this root
pub record Leaves (m : Memory) (s : Slot) (p p' : Placer) : Type 0 where
  pub lent : Lent p p'
  pub memory : memory_of p' ≡ m
  pub root : p'.root ≡ s

-- a tree's root as it is before it has a sibling, if the memory goes on from m
abbrev pub root_of : Tree → Memory → Slot
root_of (node l ts) m = slot_of l m.written (first_of m.used ts) 0

-- memory with a tree's text and all its slots but the root behind what is used of m
abbrev pub below_laid : Tree → Memory → Memory
below_laid (node l ts) m =
    record {
      slots = overlay m.slots m.used (lay_trees ts m.used (m.written + length (own_text l.name)));
      used = m.used + sizes ts;
      text = overlay m.text m.written (text_of (node l ts));
      written = m.written + length (text_of (node l ts));
    }

-- memory with a whole tree behind what is used of m
abbrev pub laid : Tree → Memory → Memory
laid t m =
    record {
      slots = overlay m.slots m.used (lay_tree t m.used m.written 0);
      used = m.used + size t;
      text = overlay m.text m.written (text_of t);
      written = m.written + length (text_of t);
    }

-- all of a tree is placed behind what is used of m but its root, which is at hand
pub record Pending (t : Tree) (m : Memory) (s : Slot) (m' : Memory) : Type 0 where
  pub root : s ≡ root_of t m
  pub memory : m' ≡ below_laid t m

-- a tree with a further child
abbrev pub grown : Tree → Tree → Tree
grown (node l ts) t = node l (behind ts t)
