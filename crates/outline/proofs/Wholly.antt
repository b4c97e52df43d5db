-- All of a layout is written.
use Rattle.std.proofs.Common.{◌≡◌, ℕ, suc, ◌+◌, ◌-◌, ◌≤◌, List, [], ◌++◌, length, refl, ap, ◌∙◌, arith}
use Rattle.tree.specs.declared.slot.Slot.{Slot}
use Rattle.tree.specs.Labels.{Label, own_text, slot_of}
use Rattle.tree.specs.Reads.{Reading, leaf_in, reading_of}
use Rattle.tree.specs.Reads.Reading.{as_name, as_string, as_regexp, as_number, not_read}
use Rattle.tree.specs.Trees.{Tree, Trees, below, size, sizes, text_of}
use Rattle.tree.specs.Trees.Tree.{node}
use Rattle.tree.specs.Trees.Trees.{none, more}
use Rattle.tree.specs.Layout.{first_of, lay_tree, lay_trees, layout}
use Rattle.tree.proofs.Layouts.{size_pos}
use Rattle.tree.proofs.Within.{Within}
use Rattle.tree.proofs.Held.{root_slot, root_next, size_below, last_of, root_at, below_in, first_in, later_in}
use Rattle.outline.specs.declared.print.Form.{Form}
use Rattle.outline.specs.declared.print.Form.TheVariants.{Outline, Line}
use Rattle.outline.specs.declared.print.Shown.{Shown}
use Rattle.outline.specs.Shown.{node_text, place_in, between_text, wrapped, trees_text, tree_text, show_at, show_text}
use Rattle.outline.specs.Whole.{around, before_more, tree_written, trees_written, Whole}
use Rattle.outline.proofs.Printed.{between_some, followed}

-- links play no part in what is written of a node
leaf_same :
    (l : Label) (c f n : ℕ) (source text : List ℕ) (k : Reading) →
    leaf_in k (slot_of l c f n) source text ≡ leaf_in k (slot_of l c 0 0) source text
leaf_same l c f n source text as_name = refl
leaf_same l c f n source text as_string = refl
leaf_same l c f n source text as_regexp = refl
leaf_same l c f n source text as_number = refl
leaf_same l c f n source text not_read = refl

place_same : (form : Form) (l : Label) (c f n : ℕ) → place_in form (slot_of l c f n) ≡ place_in form (slot_of l c 0 0)
place_same Outline l c f n = refl
place_same Line l c f n = refl

module _ (v : Shown) where
  node_same : (d : ℕ) (l : Label) (c f n : ℕ) → node_text v d (slot_of l c f n) ≡ node_text v d (slot_of l c 0 0)
  node_same d l c f n =
      rw (place_same v.form l c f n, leaf_same l c f n v.tree.source.now v.tree.text.now (reading_of l.kind))

  wrapped_trees : (b : ℕ) (ts : Trees) (x : List ℕ) → wrapped v (first_of b ts) x ≡ around v ts x
  wrapped_trees b none x = refl
  wrapped_trees b (more t ts) x =
      let e : b + size t ≡ suc ((b + size t) - 1) = omega (arith, size_pos t) in ap (λ n. wrapped v n x) e

  between_trees : (b : ℕ) (ts : Trees) → between_text v (first_of b ts) ≡ before_more v ts
  between_trees b none = refl
  between_trees b (more t ts) = between_some v (b + size t) (λ e. omega (arith, e, size_pos t))

  mutual
    -- a node and all below it
    node_shown :
        (t : Tree) (b c d k i : ℕ) → Within v.tree.slots.now b (lay_tree t b c k) → i ≡ b + sizes (below t) →
        tree_text v d b i (root_slot t b c k) ≡ tree_written v d c t
    node_shown (node l us) b c d k i w e =
        let o : ℕ = c + length (own_text l.name) in
        rw (
          trees_shown us b o (d + 1) i (below_in v.tree.slots.now l us b c k w) (omega (arith, e)),
          wrapped_trees b us (trees_written v (d + 1) o us),
          node_same d l c (first_of b us) k,
        )

    trees_shown :
        (ts : Trees) (b c d top : ℕ) → Within v.tree.slots.now b (lay_trees ts b c) → b + sizes ts ≤ top →
        trees_text v (top - b) d b top (first_of b ts) ≡ trees_written v d c ts
    trees_shown none b c d top w h = refl
    trees_shown (more t ts) b c d top w h =
        let slots : List Slot = v.tree.slots.now in
        let link : ℕ = b + size t in
        let n : ℕ = link - 1 in
        let k : ℕ = first_of link ts in
        let pos = size_pos t in
        let i : n ≡ b + sizes (below t) = omega (arith, size_below t) in
        let here = first_in slots t ts b c w in
        followed v d b top link n (root_slot t b c k) (omega arith) (omega arith) (omega arith) (root_at slots t b c k n i here)
        ∙ rw (
          root_next t b c k,
          between_trees link ts,
          trees_shown ts link (c + length (text_of t)) d top (later_in slots t ts b c w) (omega arith),
          node_shown t b c d k n here i,
        )

  tree_shown :
      (t : Tree) (others : List Slot) → v.tree.slots.now ≡ layout t ++ others → v.number ≡ size t - 1 →
      show_text v ≡ tree_written v 0 0 t
  tree_shown t others e i =
      let slots : List Slot = v.tree.slots.now in
      let w : Within slots 0 (lay_tree t 0 0 0) = record { before = []; after = others; is = e; far = refl } in
      let at_n : v.number ≡ 0 + sizes (below t) = i ∙ last_of t in
      ap (show_at v) (root_at slots t 0 0 0 v.number at_n w) ∙ node_shown t 0 0 0 0 v.number w at_n

pub whole_from : (v : Shown) (written : List ℕ) → written ≡ show_text v → Whole v written
whole_from v written e t others f i = e ∙ tree_shown v t others f i
