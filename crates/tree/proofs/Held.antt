-- A layout holds its tree, and each of its slots is reached once.
use Rattle.std.proofs.Common.{◌≡◌, ℕ, zero, suc, ◌+◌, ◌-◌, List, [], ◌∷◌, ◌++◌, length, Some, sym, refl, ap, ◌∙◌, subst, zero-add, arith}
use Rattle.std.specs.List.{slice_get}
use Rattle.tree.specs.declared.slot.Slot.{Slot}
use Rattle.tree.specs.Labels.{Name, Label, own_text, place_of, slot_of}
use Rattle.tree.specs.Labels.Name.{in_source, decoded}
use Rattle.tree.specs.Trees.{Tree, Trees, below, size, sizes, text_of, texts_of}
use Rattle.tree.specs.Trees.Tree.{node}
use Rattle.tree.specs.Trees.Trees.{none, more}
use Rattle.tree.specs.Layout.{first_of, lay_tree, lay_trees}
use Rattle.tree.specs.Holds.{Names, Holds, Chain, reached, reached_by, up_from}
use Rattle.tree.specs.Laws.{LayoutHolds, ReachedOnce}
use Rattle.tree.proofs.Layouts.{length_tree, length_trees}
use Rattle.tree.proofs.Uniqueness.{some_same}
use Rattle.tree.proofs.Within.{Within, within_first, within_later, within_at, within_cut, within_whole}

names_own : (text : List ℕ) (c : ℕ) (x : Name) → Within text c (own_text x) → Names text (place_of x c) x
names_own text c (in_source s) w = refl
names_own text c (decoded bytes) w = within_cut text c bytes w

up_last : (b k i : ℕ) → i ≡ b + k → up_from b k ++ (i ∷ []) ≡ up_from b (k + 1)
up_last b zero i e = ap (λ j. j ∷ []) (omega (arith, e))
up_last b (suc k) i e =
    let s : suc (k + 1) ≡ suc k + 1 = omega arith in
    ap (λ l. b ∷ l) (up_last (b + 1) k i (omega (arith, e))) ∙ ap (λ j. up_from b j) s

up_append : (b j k : ℕ) → up_from b j ++ up_from (b + j) k ≡ up_from b (j + k)
up_append b zero k = ap (λ a. up_from a k) (omega arith) ∙ ap (λ a. up_from b a) (sym (zero-add k))
up_append b (suc j) k =
    let s : suc (j + k) ≡ suc j + k = omega arith in
    let at_b : b + suc j ≡ (b + 1) + j = omega arith in
    ap (λ l. b ∷ (up_from (b + 1) j ++ up_from l k)) at_b ∙ ap (λ l. b ∷ l) (up_append (b + 1) j k) ∙ ap (λ a. up_from b a) s

-- the root's slot of a tree that is laid out from slot b and text c
abbrev pub root_slot : Tree → ℕ → ℕ → ℕ → Slot
root_slot (node l ts) b c n = slot_of l c (first_of b ts) n

pub root_next : (t : Tree) (b c n : ℕ) → (root_slot t b c n).next ≡ n
root_next (node l ts) b c n = refl

pub size_below : (t : Tree) → size t ≡ sizes (below t) + 1
size_below (node l ts) = refl

module _ (slots : List Slot) where
  pub root_at :
      (t : Tree) (b c n i : ℕ) → i ≡ b + sizes (below t) → Within slots b (lay_tree t b c n) →
      slice_get slots i ≡ Some (root_slot t b c n)
  root_at (node l ts) b c n i e w =
      let d : ℕ = c + length (own_text l.name) in
      within_at slots i (slot_of l c (first_of b ts) n) []
      (within_later slots b i (lay_trees ts b d) (slot_of l c (first_of b ts) n ∷ []) (omega (arith, e, length_trees ts b d)) w)

  pub below_in :
      (l : Label) (ts : Trees) (b c n : ℕ) → Within slots b (lay_tree (node l ts) b c n) →
      Within slots b (lay_trees ts b (c + length (own_text l.name)))
  below_in l ts b c n w =
      within_first slots b (lay_trees ts b (c + length (own_text l.name))) (slot_of l c (first_of b ts) n ∷ []) w

  pub first_in :
      (t : Tree) (ts : Trees) (b c : ℕ) → Within slots b (lay_trees (more t ts) b c) →
      Within slots b (lay_tree t b c (first_of (b + size t) ts))
  first_in t ts b c w =
      within_first slots b (lay_tree t b c (first_of (b + size t) ts)) (lay_trees ts (b + size t) (c + length (text_of t))) w

  pub later_in :
      (t : Tree) (ts : Trees) (b c : ℕ) → Within slots b (lay_trees (more t ts) b c) →
      Within slots (b + size t) (lay_trees ts (b + size t) (c + length (text_of t)))
  later_in t ts b c w =
      within_later slots b (b + size t) (lay_tree t b c (first_of (b + size t) ts))
      (lay_trees ts (b + size t) (c + length (text_of t)))
      (ap (λ k. b + k) (sym (length_tree t b c (first_of (b + size t) ts))))
      w

  module _ (text : List ℕ) where
    mutual
      pub tree_held :
          (t : Tree) (b c n i : ℕ) → i ≡ b + sizes (below t) → Within slots b (lay_tree t b c n) → Within text c (text_of t) →
          Holds slots text i t
      tree_held (node l ts) b c n i e w x = (
        slot_of l c (first_of b ts) n,
        root_at (node l ts) b c n i e w,
        record {
          kind = refl;
          span = refl;
          name = names_own text c l.name (within_first text c (own_text l.name) (texts_of ts) x);
          value = refl;
          flags = refl;
          float = refl;
        },
        trees_held ts b (c + length (own_text l.name)) (below_in l ts b c n w)
            (within_later text c (c + length (own_text l.name)) (own_text l.name) (texts_of ts) refl x),
      )

      trees_held :
          (ts : Trees) (b c : ℕ) → Within slots b (lay_trees ts b c) → Within text c (texts_of ts) →
          Chain slots text (first_of b ts) ts
      trees_held none b c w x = refl
      trees_held (more t ts) b c w x =
          let k : ℕ = first_of (b + size t) ts in
          let n : ℕ = b + sizes (below t) in
          let F : ℕ → Type 0 = λ j. Chain slots text j ts in (
            n,
            root_slot t b c k,
            omega (arith, size_below t),
            root_at t b c k n refl (first_in t ts b c w),
            tree_held t b c k n refl (first_in t ts b c w) (within_first text c (text_of t) (texts_of ts) x),
            subst F (sym (root_next t b c k))
                (trees_held ts (b + size t) (c + length (text_of t)) (later_in t ts b c w)
                (within_later text c (c + length (text_of t)) (text_of t) (texts_of ts) refl x)),
          )

    -- each slot is reached once, in the order of the slots
    mutual
      pub tree_reached :
          (t : Tree) (b c n i : ℕ) → i ≡ b + sizes (below t) → Within slots b (lay_tree t b c n) → (h : Holds slots text i t) →
          reached slots text i t h ≡ up_from b (size t)
      tree_reached (node l ts) b c n i e w h =
          let s = some_same h.0 (slot_of l c (first_of b ts) n) (slice_get slots i) h.1 (root_at (node l ts) b c n i e w) in
          ap (λ q. q ++ (i ∷ []))
          (trees_reached ts b (c + length (own_text l.name)) h.0.first (ap (λ x. x.first) s)
          (below_in l ts b c n w)
          h.3)
          ∙ up_last b (sizes ts) i e

      trees_reached :
          (ts : Trees) (b c link : ℕ) → link ≡ first_of b ts → Within slots b (lay_trees ts b c) →
          (h : Chain slots text link ts) → reached_by slots text link ts h ≡ up_from b (sizes ts)
      trees_reached none b c link e w h = refl
      trees_reached (more t ts) b c link e w h =
          let k : ℕ = first_of (b + size t) ts in
          let n : h.0 ≡ b + sizes (below t) = omega (arith, e, h.2, size_below t) in
          let s = some_same h.1 (root_slot t b c k) (slice_get slots h.0) h.3 (root_at t b c k h.0 n (first_in t ts b c w)) in
          ap (λ q. q ++ reached_by slots text h.1.next ts h.5) (tree_reached t b c k h.0 n (first_in t ts b c w) h.4)
          ∙ ap (λ q. up_from b (size t) ++ q)
          (trees_reached ts (b + size t) (c + length (text_of t)) h.1.next (ap (λ x. x.next) s ∙ root_next t b c k)
          (later_in t ts b c w)
          h.5)
          ∙ up_append b (size t) (sizes ts)

pub last_of : (t : Tree) → size t - 1 ≡ 0 + sizes (below t)
last_of (node l ts) = omega arith

pub layout_holds_lem : LayoutHolds
layout_holds_lem t =
    tree_held (lay_tree t 0 0 0) (text_of t) t 0 0 0 (size t - 1) (last_of t) (within_whole (lay_tree t 0 0 0))
    (within_whole (text_of t))

pub reached_once_lem : ReachedOnce
reached_once_lem =
    record {
      slots = λ t. length_tree t 0 0 0;
      order = λ t h. tree_reached (lay_tree t 0 0 0) (text_of t) t 0 0 0 (size t - 1) (last_of t) (within_whole (lay_tree t 0 0 0)) h;
    }
