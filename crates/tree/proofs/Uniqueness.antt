-- The tree that slots hold from a number is unique.
use Rattle.std.proofs.Common.{◌≡◌, ℕ, Bool, List, Some, Option, sym, refl, ap, ◌∙◌, subst, arith}
use Rattle.std.specs.List.{slice_get}
use Rattle.syntax.specs.declared.span.Span.{Span}
use Rattle.tree.specs.declared.slot.Slot.{Slot}
use Rattle.tree.specs.Labels.{Flags, Name, Label, is_decoded, flag_number}
use Rattle.tree.specs.Labels.Name.{in_source, decoded}
use Rattle.tree.specs.Trees.{Tree, Trees}
use Rattle.tree.specs.Trees.Tree.{node}
use Rattle.tree.specs.Trees.Trees.{none, more}
use Rattle.tree.specs.Holds.{Names, Shows, Holds, Chain}
use Rattle.tree.specs.Laws.{OneTree}
use Rattle.tree.proofs.Flags.{flagged, unsigned_read, insensitive_read, dot_read, wildcard_read, object_read, decoded_read}

-- the flags that a number stands for
flags_same : (f g : Flags) (a b : Bool) → flag_number f a ≡ flag_number g b → (f ≡ g) × (a ≡ b)
flags_same f g a b e = (
  (λ j.
      record {
        unsigned = (sym (unsigned_read f a) ∙ ap (flagged 1) e ∙ unsigned_read g b) j;
        case_insensitive = (sym (insensitive_read f a) ∙ ap (flagged 2) e ∙ insensitive_read g b) j;
        dot_matches_new_line = (sym (dot_read f a) ∙ ap (flagged 4) e ∙ dot_read g b) j;
        wildcard = (sym (wildcard_read f a) ∙ ap (flagged 8) e ∙ wildcard_read g b) j;
        object = (sym (object_read f a) ∙ ap (flagged 16) e ∙ object_read g b) j;
      }),
  sym (decoded_read f a) ∙ ap (flagged 32) e ∙ decoded_read g b,
)

names_same : (text : List ℕ) (p : Span) (x y : Name) → is_decoded x ≡ is_decoded y → Names text p x → Names text p y → x ≡ y
names_same text p (in_source s) (in_source t) e h k = ap in_source (sym h ∙ k)
names_same text p (in_source s) (decoded t) e h k = absurd (let z : ◌≡◌ {A = ℕ} 0 1 = cc in omega arith)
names_same text p (decoded s) (in_source t) e h k = absurd (let z : ◌≡◌ {A = ℕ} 0 1 = cc in omega arith)
names_same text p (decoded s) (decoded t) e h k = let f : s ≡ t = cc in ap decoded f

shows_same : (text : List ℕ) (s : Slot) (l k : Label) → Shows text s l → Shows text s k → l ≡ k
shows_same text s l k p q =
    let f = flags_same l.flags k.flags (is_decoded l.name) (is_decoded k.name) (sym p.flags ∙ q.flags) in
    λ i.
    record {
      kind = (sym p.kind ∙ q.kind) i;
      span = (sym p.span ∙ q.span) i;
      name = names_same text s.name l.name k.name f.1 p.name q.name i;
      value = (sym p.value ∙ q.value) i;
      flags = f.0 i;
      float = (sym p.float ∙ q.float) i;
    }

-- what stands at one place is one thing
pub some_same : {A : Type 0} (x y : A) (o : Option A) → o ≡ Some x → o ≡ Some y → x ≡ y
some_same x y o p q = cc

module _ (slots : List Slot) (text : List ℕ) where
  mutual
    tree_same : (n m : ℕ) (t u : Tree) → n ≡ m → Holds slots text n t → Holds slots text m u → t ≡ u
    tree_same n m (node l ts) (node k us) e h g =
        let s : h.0 ≡ g.0 = some_same h.0 g.0 (slice_get slots n) h.1 (ap (slice_get slots) e ∙ g.1) in
        let S : Slot → Type 0 = λ x. Shows text x l in
        let C : Slot → Type 0 = λ x. Chain slots text x.first ts in
        let labels = shows_same text g.0 l k (subst S s h.2) g.2 in
        let children = trees_same g.0.first g.0.first ts us refl (subst C s h.3) g.3 in
        ap (λ x. node x ts) labels ∙ ap (λ x. node k x) children

    trees_same : (i j : ℕ) (ts us : Trees) → i ≡ j → Chain slots text i ts → Chain slots text j us → ts ≡ us
    trees_same i j none none e h g = refl
    trees_same i j none (more u us) e h g = absurd (omega (arith, e, h, g.2))
    trees_same i j (more t ts) none e h g = absurd (omega (arith, e, g, h.2))
    trees_same i j (more t ts) (more u us) e h g =
        let n : h.0 ≡ g.0 = omega (arith, e, h.2, g.2) in
        let s : h.1 ≡ g.1 = some_same h.1 g.1 (slice_get slots h.0) h.3 (ap (slice_get slots) n ∙ g.3) in
        let first = tree_same h.0 g.0 t u n h.4 g.4 in
        let others = trees_same h.1.next g.1.next ts us (ap (λ x. x.next) s) h.5 g.5 in
        ap (λ x. more x ts) first ∙ ap (λ x. more u x) others

pub one_tree_lem : OneTree
one_tree_lem slots text n t u h g = tree_same slots text n n t u refl h g
