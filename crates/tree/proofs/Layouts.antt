-- What one more child does to a layout.
use Rattle.std.proofs.Common.{◌≡◌, ℕ, ◌+◌, ◌-◌, ◌<◌, List, [], ◌∷◌, ◌++◌, length, set, sym, refl, ap, ◌∙◌, arith, length-append}
use Rattle.std.proofs.lemmas.List.{append-nil, append_assoc}
use Rattle.tree.specs.declared.slot.Slot.{Slot}
use Rattle.tree.specs.Labels.{Label, own_text, slot_of}
use Rattle.tree.specs.Trees.{Tree, Trees, behind, size, sizes, text_of, texts_of}
use Rattle.tree.specs.Trees.Tree.{node}
use Rattle.tree.specs.Trees.Trees.{none, more}
use Rattle.tree.specs.Layout.{first_of, lay_tree, lay_trees}
use Rattle.lent.specs.Lists.{overlay}
use Rattle.lent.proofs.Overlays.{overlay-++}
use Rattle.tree.specs.Memory.{set_next}
use Rattle.tree.proofs.Stores.{set_next_last}

mutual
  pub length_tree : (t : Tree) (b c n : ℕ) → length (lay_tree t b c n) ≡ size t
  length_tree (node l ts) b c n =
      length-append (lay_trees ts b (c + length (own_text l.name))) (slot_of l c (first_of b ts) n ∷ [])
      ∙ omega (arith, length_trees ts b (c + length (own_text l.name)))

  pub length_trees : (ts : Trees) (b c : ℕ) → length (lay_trees ts b c) ≡ sizes ts
  length_trees none b c = refl
  length_trees (more t ts) b c =
      length-append (lay_tree t b c (first_of (b + size t) ts)) (lay_trees ts (b + size t) (c + length (text_of t)))
      ∙ omega (arith, length_tree t b c (first_of (b + size t) ts), length_trees ts (b + size t) (c + length (text_of t)))

pub size_pos : (t : Tree) → 0 < size t
size_pos (node l ts) = omega arith

-- a root behind its children
pub lay_node :
    (m : List Slot) (b c : ℕ) (l : Label) (ts : Trees) →
    set (overlay m b (lay_trees ts b (c + length (own_text l.name)))) (b + sizes ts) (slot_of l c (first_of b ts) 0)
    ≡ overlay m b (lay_tree (node l ts) b c 0)
lay_node m b c l ts =
    let x : Slot = slot_of l c (first_of b ts) 0 in
    let k : ℕ = c + length (own_text l.name) in
    ap (λ i. set (overlay m b (lay_trees ts b k)) (b + i) x) (sym (length_trees ts b k))
    ∙ sym (overlay-++ m b (lay_trees ts b k) (x ∷ []))

-- the sibling of a root that was just laid out
relink :
    (m : List Slot) (b c n : ℕ) (t : Tree) →
    set_next (overlay m b (lay_tree t b c 0)) ((b + size t) - 1) n ≡ overlay m b (lay_tree t b c n)
relink m b c n (node l us) =
    let x : Slot = slot_of l c (first_of b us) 0 in
    let k : ℕ = c + length (own_text l.name) in
    let i : (b + (sizes us + 1)) - 1 ≡ b + length (lay_trees us b k) = omega (arith, length_trees us b k) in
    ap (λ j. set_next (overlay m b (lay_trees us b k ++ (x ∷ []))) j n) i ∙ set_next_last m b n (lay_trees us b k) x

-- a tree, and the trees behind it
lay_more :
    (m : List Slot) (b c : ℕ) (t : Tree) (ts : Trees) →
    overlay m b (lay_trees (more t ts) b c)
    ≡ overlay (overlay m b (lay_tree t b c (first_of (b + size t) ts))) (b + size t)
    (lay_trees ts (b + size t) (c + length (text_of t)))
lay_more m b c t ts =
    let first : List Slot = lay_tree t b c (first_of (b + size t) ts) in
    let others : List Slot = lay_trees ts (b + size t) (c + length (text_of t)) in
    overlay-++ m b first others
    ∙ ap (λ i. overlay (overlay m b first) (b + i) others) (length_tree t b c (first_of (b + size t) ts))

pub sizes_behind : (ts : Trees) (u : Tree) → sizes (behind ts u) ≡ sizes ts + size u
sizes_behind none u = omega arith
sizes_behind (more t ts) u = omega (arith, sizes_behind ts u)

pub texts_behind : (ts : Trees) (u : Tree) → texts_of (behind ts u) ≡ texts_of ts ++ text_of u
texts_behind none u = append-nil (text_of u)
texts_behind (more t ts) u =
    ap (λ x. text_of t ++ x) (texts_behind ts u) ∙ sym (append_assoc (text_of t) (texts_of ts) (text_of u))

-- a further child: the last one before it gets a sibling, and it is laid out behind; i and k are where slots and text go on
pub lay_behind :
    (m : List Slot) (b c i k : ℕ) (ts : Trees) (u : Tree) → i ≡ b + sizes ts → k ≡ c + length (texts_of ts) → 0 < sizes ts →
    overlay m b (lay_trees (behind ts u) b c)
    ≡ overlay (set_next (overlay m b (lay_trees ts b c)) (i - 1) (i + size u)) i (lay_tree u i k 0)
lay_behind m b c i k none u e f h = absurd (omega arith)
lay_behind m b c i k (more t none) u e f h =
    let j : ℕ = b + size t in
    let d : ℕ = c + length (text_of t) in
    let n : ℕ = j + size u in
    let at_i : j ≡ i = omega (arith, e) in
    let at_k : d ≡ k = omega (arith, f, ap length (append-nil (text_of t))) in
    lay_more m b c t (more u none)
    ∙ ap (λ xs. overlay (overlay m b (lay_tree t b c n)) j xs) (append-nil (lay_tree u j d 0))
    ∙ ap (λ y. overlay y j (lay_tree u j d 0)) (sym (relink m b c n t))
    ∙ ap (λ xs. overlay (set_next (overlay m b xs) (j - 1) n) j (lay_tree u j d 0)) (sym (append-nil (lay_tree t b c 0)))
    ∙ ap (λ p. overlay (set_next (overlay m b (lay_trees (more t none) b c)) (p - 1) (p + size u)) p (lay_tree u p d 0)) at_i
    ∙ ap (λ q. overlay (set_next (overlay m b (lay_trees (more t none) b c)) (i - 1) (i + size u)) i (lay_tree u i q 0)) at_k
lay_behind m b c i k (more t (more t₂ ts)) u e f h =
    let j : ℕ = b + size t in
    let d : ℕ = c + length (text_of t) in
    let m₁ : List Slot = overlay m b (lay_tree t b c (j + size t₂)) in
    lay_more m b c t (more t₂ (behind ts u))
    ∙ lay_behind m₁ j d i k (more t₂ ts) u (omega (arith, e))
    (omega (arith, f, length-append (text_of t) (texts_of (more t₂ ts))))
    (omega (arith, size_pos t₂))
    ∙ ap (λ y. overlay (set_next y (i - 1) (i + size u)) i (lay_tree u i k 0)) (sym (lay_more m b c t (more t₂ ts)))
