-- What the placing calls do to a tree that is being placed.
use Rattle.std.proofs.Common.{◌≡◌, ℕ, ◌+◌, ◌-◌, ◌^◌, ◌<◌, ◌≤◌, false, cond, eqb, List, [], ◌∷◌, ◌++◌, length, set, sym, refl, ap, ◌∙◌, subst, arith, length-append, ne_eqb}
use Rattle.std.proofs.lemmas.List.{append-nil, append_assoc}
use Rattle.tree.specs.declared.slot.Slot.{Slot}
use Rattle.tree.specs.Labels.{Label, own_text, slot_of, blank_slot}
use Rattle.tree.specs.Trees.{Tree, Trees, behind, size, sizes, text_of, texts_of}
use Rattle.tree.specs.Trees.Tree.{node}
use Rattle.tree.specs.Trees.Trees.{none, more}
use Rattle.tree.specs.Layout.{lay_tree, lay_trees, layout}
use Rattle.tree.specs.Memory.{Memory, linked, with_first, placed, pushed, texted, tidied, adopted_root, adopted_slots, adopted, root_of, below_laid, laid, Pending}
use Rattle.lent.specs.Lists.{counted, overlay, fit, blanked_from}
use Rattle.lent.proofs.Overlays.{overlay-++, blanked_fit}
use Rattle.tree.specs.Laws.{Lays, Grows, Writes, Done, Completes}
use Rattle.tree.proofs.Stores.{set_next_before, linked_at}
use Rattle.tree.proofs.Layouts.{length_tree, lay_node, lay_behind, sizes_behind, texts_behind, size_pos}
use Rattle.tree.proofs.Fits.{fit_within}
use Rattle.tree.proofs.Within.{Within}
use Rattle.tree.proofs.Held.{last_of, tree_held, tree_reached}

-- memories with the same parts
pub same_memory :
    (a b : Memory) → a.slots ≡ b.slots → a.used ≡ b.used → a.text ≡ b.text → a.written ≡ b.written → a ≡ b
same_memory a b s u t w = λ i. record { slots = s i; used = u i; text = t i; written = w i }

-- a counter that does not stop
pub counts : (n : ℕ) → n + 1 < 2 ^ 64 → counted n ≡ n + 1
counts n h = omega arith

-- a root is placed
pub lays : (root : Slot) (m : Memory) → Lays root m (placed root m)
lays root m (node l ts) m₀ p h =
    let b : ℕ = m₀.used in
    let c : ℕ = m₀.written in
    same_memory (placed root m) (laid (node l ts) m₀)
    (ap (λ (n : Memory). set n.slots n.used root) p.memory
    ∙ ap (λ s. set (overlay m₀.slots b (lay_trees ts b (c + length (own_text l.name)))) (b + sizes ts) s) p.root
    ∙ lay_node m₀.slots b c l ts)
    (counts m.used h ∙ omega (arith, ap (λ (n : Memory). n.used) p.memory))
    (ap (λ (n : Memory). n.text) p.memory)
    (ap (λ (n : Memory). n.written) p.memory)

text_grown : (l : Label) (ts : Trees) (u : Tree) → text_of (node l ts) ++ text_of u ≡ text_of (node l (behind ts u))
text_grown l ts u =
    append_assoc (own_text l.name) (texts_of ts) (text_of u)
    ∙ ap (λ x. own_text l.name ++ x) (sym (texts_behind ts u))

-- where the text goes on behind a label and the trees below it
text_behind :
    (l : Label) (ts : Trees) (c : ℕ) →
    c + length (text_of (node l ts)) ≡ (c + length (own_text l.name)) + length (texts_of ts)
text_behind l ts c = omega (arith, length-append (own_text l.name) (texts_of ts))

-- a parent with a child that was laid out
abbrev fostered : Slot → ℕ → Memory → Memory
fostered parent last m =
    record {
      slots = adopted_slots parent last m.used m.slots;
      used = m.used;
      text = m.text;
      written = m.written;
    }

module _ (l : Label) (u : Tree) (m : Memory) where
  -- the slots, with a first child and with a later one
  slots_grown :
      (ts : Trees) (last : ℕ) → (0 < sizes ts → last ≡ m.used + sizes ts) →
      (fostered (root_of (node l ts) m) last (laid u (below_laid (node l ts) m))).slots
      ≡ (below_laid (node l (behind ts u)) m).slots
  slots_grown none last e =
      let b : ℕ = m.used in
      let c : ℕ = m.written in
      let at_b : b + 0 ≡ b = omega arith in
      let at_c : c + length (text_of (node l none)) ≡ c + length (own_text l.name) =
      text_behind l none c ∙ omega arith in
      ap (λ i. overlay m.slots i (lay_tree u i (c + length (text_of (node l none))) 0)) at_b
      ∙ ap (λ k. overlay m.slots b (lay_tree u b k 0)) at_c
      ∙ ap (λ xs. overlay m.slots b xs) (sym (append-nil (lay_tree u b (c + length (own_text l.name)) 0)))
  slots_grown (more t ts) last e =
      let b : ℕ = m.used in
      let i : ℕ = b + sizes (more t ts) in
      let k : ℕ = m.written + length (text_of (node l (more t ts))) in
      let o : ℕ = m.written + length (own_text l.name) in
      let pos = size_pos t in
      let xs : List Slot = lay_tree u i k 0 in
      let m₁ : List Slot = overlay m.slots b (lay_trees (more t ts) b o) in
      let test : eqb (b + size t) 0 ≡ false = ne_eqb (b + size t) 0 (λ z. omega arith) in
      ap (λ q. cond q (overlay m₁ i xs) (linked (overlay m₁ i xs) last (i + size u))) test
      ∙ ap (λ j. linked (overlay m₁ i xs) j (i + size u)) (e (omega arith))
      ∙ linked_at (overlay m₁ i xs) i (i + size u) (omega arith)
      ∙ set_next_before m₁ (i - 1) i (i + size u) xs (omega arith)
      ∙ sym (lay_behind m.slots b o i k (more t ts) u refl (text_behind l (more t ts) m.written) (omega arith))

  root_grown :
      (ts : Trees) → adopted_root (root_of (node l ts) m) (laid u (below_laid (node l ts) m)).used ≡ root_of (node l (behind ts u)) m
  root_grown none = ap (λ n. slot_of l m.written n 0) (omega arith)
  root_grown (more t ts) =
      let pos = size_pos t in
      let s : Slot = root_of (node l (more t ts)) m in
      let n : ℕ = (laid u (below_laid (node l (more t ts)) m)).used in
      let test : eqb (m.used + size t) 0 ≡ false = ne_eqb (m.used + size t) 0 (λ z. omega arith) in
      ap (λ q. cond q (with_first s n) s) test

  memory_grown :
      (ts : Trees) (last : ℕ) → (0 < sizes ts → last ≡ m.used + sizes ts) →
      fostered (root_of (node l ts) m) last (laid u (below_laid (node l ts) m)) ≡ below_laid (node l (behind ts u)) m
  memory_grown ts last e =
      let ys : List ℕ = text_of (node l ts) in
      same_memory (fostered (root_of (node l ts) m) last (laid u (below_laid (node l ts) m)))
      (below_laid (node l (behind ts u)) m)
      (slots_grown ts last e)
      (omega (arith, sizes_behind ts u))
      (sym (overlay-++ m.text m.written ys (text_of u)) ∙ ap (λ x. overlay m.text m.written x) (text_grown l ts u))
      (omega (arith, length-append ys (text_of u), ap length (text_grown l ts u)))

-- a root is adopted
pub grows :
    (parent : Slot) (last : ℕ) (root : Slot) (m : Memory) →
    Grows parent last root m (adopted_root parent (counted m.used)) (adopted parent last root m)
grows parent last root m (node l ts) u m₀ m₁ p e q h =
    let m₂ : Memory = below_laid (node l ts) m₀ in
    let s : Slot = root_of (node l ts) m₀ in
    let P : Memory → Type 0 = λ x. Pending u x root m in
    let lain = lays root m u m₂ (subst P p.memory q) h in
    let last_is : 0 < sizes ts → last ≡ m₀.used + sizes ts = λ z. e z ∙ ap (λ (n : Memory). n.used) p.memory in
    record {
      root =
          ap (λ x. adopted_root x (counted m.used)) p.root ∙ ap (λ (n : Memory). adopted_root s n.used) lain
          ∙ root_grown l u m₀ ts;
      memory =
          ap (λ x. adopted x last root m) p.root ∙ ap (λ n. fostered s last n) lain ∙ memory_grown l u m₀ ts last last_is;
    }

-- a tree that was laid out from the start
pub completes : (m : Memory) → Completes m (tidied m)
completes m t m₀ u w e =
    let xs : List Slot = layout t in
    let slots_are : (tidied m).slots ≡ fit blank_slot (length m₀.slots) xs =
    ap (λ n. (tidied n).slots) e
    ∙ ap (λ b. blanked_from blank_slot (b + size t) (overlay m₀.slots b (lay_tree t b m₀.written 0))) u
    ∙ ap (λ c. blanked_from blank_slot (0 + size t) (overlay m₀.slots 0 (lay_tree t 0 c 0))) w
    ∙ blanked_fit blank_slot m₀.slots xs (0 + size t) (omega (arith, length_tree t 0 0 0)) in
    let text_is : (tidied m).text ≡ fit 0 (length m₀.text) (text_of t) =
    ap (λ n. (tidied n).text) e
    ∙ ap (λ c. blanked_from 0 (c + length (text_of t)) (overlay m₀.text c (text_of t))) w
    ∙ blanked_fit 0 m₀.text (text_of t) (0 + length (text_of t)) (omega arith) in
    let S : List Slot → Type 0 = λ x. Within x 0 xs in
    let X : List ℕ → Type 0 = λ x. Within x 0 (text_of t) in
    let fits_in = λ (a : size t ≤ length m₀.slots).
    subst S (sym slots_are) (fit_within blank_slot (length m₀.slots) xs (omega (arith, a, length_tree t 0 0 0))) in
    record {
      slots = slots_are;
      used = ap (λ (n : Memory). n.used) e ∙ omega (arith, u);
      text = text_is;
      written = ap (λ (n : Memory). n.written) e ∙ omega (arith, w);
      held =
          λ a b.
          tree_held (tidied m).slots (tidied m).text t 0 0 0 (size t - 1) (last_of t) (fits_in a)
          (subst X (sym text_is) (fit_within 0 (length m₀.text) (text_of t) b));
      once =
          λ a h. tree_reached (tidied m).slots (tidied m).text t 0 0 0 (size t - 1) (last_of t) (fits_in a) h;
    }

-- a node with nothing below it and no text of its own
pub leaf_pending_at :
    (l : Label) (m : Memory) (s : Slot) → own_text l.name ≡ [] → s ≡ slot_of l m.written 0 0 → Pending (node l none) m s m
leaf_pending_at l m s e f =
    let no_text : text_of (node l none) ≡ [] = append-nil (own_text l.name) ∙ e in
    record {
      root = f;
      memory =
          same_memory m (below_laid (node l none) m) refl (omega arith)
          (ap (λ x. overlay m.text m.written x) (sym no_text))
          (omega (arith, ap length no_text));
    }

-- a node with nothing below it whose own text was written
pub text_pending :
    (l : Label) (m : Memory) → Pending (node l none) m (slot_of l m.written 0 0) (texted (own_text l.name) m)
text_pending l m =
    let own : List ℕ = own_text l.name in
    record {
      root = refl;
      memory =
          same_memory (texted own m) (below_laid (node l none) m) refl (omega arith)
          (ap (λ x. overlay m.text m.written x) (sym (append-nil own)))
          (ap (λ x. m.written + length x) (sym (append-nil own)));
    }

-- no bytes, and one more byte
pub texted_none : (m : Memory) → texted [] m ≡ m
texted_none m = same_memory (texted [] m) m refl refl refl (omega arith)

pub texted_more :
    (bytes : List ℕ) (byte : ℕ) (m : Memory) → (m.written + length bytes) + 1 < 2 ^ 64 →
    pushed byte (texted bytes m) ≡ texted (bytes ++ (byte ∷ [])) m
texted_more bytes byte m h =
    same_memory (pushed byte (texted bytes m)) (texted (bytes ++ (byte ∷ [])) m) refl refl
    (sym (overlay-++ m.text m.written bytes (byte ∷ [])))
    (counts (m.written + length bytes) h ∙ omega (arith, length-append bytes (byte ∷ [])))

-- a root under another label with as much text: kind, place, value, flags or a name in the source may change
pub relabelled :
    (l k : Label) (ts : Trees) (m m' : Memory) (s s' : Slot) → own_text l.name ≡ own_text k.name →
    s' ≡ slot_of k m.written s.first 0 → Pending (node l ts) m s m' → Pending (node k ts) m s' m'
relabelled l k ts m m' s s' e f p =
    let B : List ℕ → Memory =
    λ own.
    record {
      slots = overlay m.slots m.used (lay_trees ts m.used (m.written + length own));
      used = m.used + sizes ts;
      text = overlay m.text m.written (own ++ texts_of ts);
      written = m.written + length (own ++ texts_of ts);
    } in
    record {
      root = f ∙ ap (λ n. slot_of k m.written n 0) (ap (λ x. x.first) p.root);
      memory = p.memory ∙ ap B e;
    }

-- the same of a call that leaves such memory
pub lays_from :
    (root : Slot) (m m' : Memory) → m' ≡ placed root m → Lays root m m'
lays_from root m m' e t m₀ p h = e ∙ lays root m t m₀ p h

pub grows_from :
    (parent : Slot) (last : ℕ) (root : Slot) (m : Memory) (root' : Slot) (m' : Memory) →
    root' ≡ adopted_root parent (counted m.used) → m' ≡ adopted parent last root m → Grows parent last root m root' m'
grows_from parent last root m root' m' e f t u m₀ m₁ p g q h =
    let d = grows parent last root m t u m₀ m₁ p g q h in
    record { root = e ∙ d.root; memory = f ∙ d.memory }

pub completes_from : (m m' : Memory) → m' ≡ tidied m → Completes m m'
completes_from m m' e t m₀ u w f =
    let D : Memory → Type 0 = λ x. Done t m₀ x in
    subst D (sym e) (completes m t m₀ u w f)

pub writes_from : (byte : ℕ) (m m' : Memory) → m' ≡ pushed byte m → Writes byte m m'
writes_from byte m m' e bytes m₀ f h =
    let at : m.written ≡ m₀.written + length bytes = ap (λ (x : Memory). x.written) f in
    e ∙ ap (λ x. pushed byte x) f ∙ texted_more bytes byte m₀ (omega (arith, at, h))

-- a new node above a root: the law of a further child, of a parent that has none yet
pub raised :
    (l : Label) (t : Tree) (parent : Slot) (last : ℕ) (m₀ m m' : Memory) (s s' : Slot) → own_text l.name ≡ [] →
    parent ≡ slot_of l m₀.written 0 0 → Pending t m₀ s m → m.used + 1 < 2 ^ 64 → Grows parent last s m s' m' →
    Pending (node l (more t none)) m₀ s' m'
raised l t parent last m₀ m m' s s' e f p h law =
    law (node l none) t m₀ m₀ (leaf_pending_at l m₀ parent e f) (λ z. absurd (omega arith)) p h
