-- Trees whose roots grow.
use Rattle.std.proofs.Common.{◌≡◌, ℕ, ◌+◌, ◌^◌, ◌<◌, Bool, true, false, cond, [], refl, sym, ap, ◌∙◌, subst, eqb, arith}
use Rattle.std.specs.Option.{unwrap_or}
use Rattle.syntax.specs.declared.span.Span.{Span}
use Rattle.syntax.specs.Spans.{combined}
use Rattle.kinds.specs.declared.kind.SyntaxKind.{SyntaxKind}
use Rattle.kinds.specs.declared.kind.SyntaxKind.TheVariants.{DOT}
use Rattle.tree.specs.declared.node.NodeKind.{NodeKind}
use Rattle.tree.specs.declared.node.NodeKind.TheVariants.{Blank, FieldAccess}
use Rattle.tree.specs.Kinds.{number_of}
use Rattle.tree.specs.declared.place.Aside.{Aside}
use Rattle.tree.specs.declared.place.Placer.{Placer}
use Rattle.tree.specs.declared.slot.Slot.{Slot}
use Rattle.tree.specs.Labels.{Label, Name, own_text, is_decoded, place_of, plain, slot_of}
use Rattle.tree.specs.Labels.Name.{in_source, decoded}
use Rattle.tree.specs.Trees.{Tree, Trees, label_at, behind}
use Rattle.tree.specs.Trees.Tree.{node}
use Rattle.tree.specs.Trees.Trees.{none, more}
use Rattle.tree.specs.Memory.{Memory, memory_of, adopted, Leaves, Pending}
use Rattle.tree.specs.Laws.{Grows}
use Rattle.tree.proofs.Pendings.{leaf_pending_at}
use Rattle.operators.specs.Nodes.{node_of, merging_of, is}
use Rattle.operators.specs.Merges.{opened}
use Rattle.grammar.specs.Nodes.{span_of_tree, up_to, further, longer, unary, making}
use Rattle.grammar.specs.Built.{field, last_of, across, listed}
use Rattle.grammar.specs.Words.{Operator}
use Rattle.builder.specs.Growth.{Grew, Waits, Bare, furthers, respan, opened_by}

-- a root and its memory, put aside
pub waits :
    (t : Tree) (m : Memory) (a : Aside) (o : Placer) → a ≡ record { root = o.root; last = o.used } →
    Pending t m o.root (memory_of o) → Waits t m a (memory_of o)
waits t m a o e p =
    record {
      pending = record { root = ap (λ (x : Aside). x.root) e ∙ p.root; memory = p.memory };
      last = λ z. ap (λ (x : Aside). x.last) e;
    }

-- a name in the source: it adds no text, and its place is the same wherever the text goes on
no_text : (n : Name) → is_decoded n ≡ false → own_text n ≡ []
no_text (in_source s) e = refl
no_text (decoded bytes) e = absurd (grind (arith, e))

one_place : (n : Name) (c : ℕ) → is_decoded n ≡ false → place_of n 0 ≡ place_of n c
one_place (in_source s) c e = refl
one_place (decoded bytes) c e = absurd (grind (arith, e))

-- a node with nothing below it
pub bare_pending : (l : Label) (s : Slot) (m : Memory) → Bare l s → Pending (node l none) m s m
bare_pending l s m b =
    leaf_pending_at l m s (no_text l.name b.in_source)
    (b.slot ∙ ap (λ x. record (slot_of l 0 0 0) { name = x }) (one_place l.name m.written b.in_source))

-- a root with nothing below it, put aside
pub bare_waits : (l : Label) (a : Aside) (m : Memory) → Bare l a.root → Waits (node l none) m a m
bare_waits l a m b = record { pending = bare_pending l a.root m b; last = λ z. absurd (omega arith) }

-- nothing changes
pub stayed : (n : ℕ) (o : Placer) → Grew n o o
stayed n o =
    record { lent = record { slots = refl; text = refl }; used = omega arith; text = refl; written = refl }

-- one growth behind another; the root may have been changed in between
pub grew_more :
    (n k : ℕ) (a b c : Placer) (r : Slot) → Grew n a b → Grew k (record b { root = r }) c → Grew (n + k) a c
grew_more n k a b c r g h =
    record {
      lent = record { slots = h.lent.slots ∙ g.lent.slots; text = h.lent.text ∙ g.lent.text };
      used = omega (arith, g.used, h.used);
      text = h.text ∙ g.text;
      written = h.written ∙ g.written;
    }

-- a root that adopts another takes a slot, and may be changed then
pub adopting :
    (a : Aside) (s r : Slot) (o o' : Placer) → Leaves (adopted a.root a.last o.root (memory_of o)) s o o' →
    Grew 1 o (record o' { root = r })
adopting a s r o o' l =
    record {
      lent = record { slots = l.lent.slots; text = l.lent.text };
      used = omega (arith, ap (λ (x : Memory). x.used) l.memory);
      text = ap (λ (x : Memory). x.text) l.memory;
      written = ap (λ (x : Memory). x.written) l.memory;
    }

-- a root that reaches from elsewhere to elsewhere
pub respanned :
    (t : Tree) (p : Span) (m m' : Memory) (s : Slot) → Pending t m s m' → Pending (respan t p) m (record s { span = p }) m'
respanned (node l ts) p m m' s q =
    record { root = ap (λ (x : Slot). record x { span = p }) q.root; memory = q.memory }

-- a root that adopts another reaches to its end
pub reaching :
    (a : Aside) (root s : Slot) (m m' : Memory) (end : Span) → end ≡ combined a.root.span root.span →
    Grows a.root a.last root m s m' →
    (t u : Tree) (m₀ m₁ : Memory) → Waits t m₀ a m₁ → Pending u m₁ root m → m.used + 1 < 2 ^ 64 →
    Pending (further t u) m₀ (record s { span = end }) m'
reaching a root s m m' end e law (node l ts) (node k us) m₀ m₁ w q h =
    let t : Tree = node l (behind ts (node k us)) in
    let end_is : end ≡ combined l.span k.span =
    e
    ∙ ap (λ (x : Slot). combined x.span root.span) w.pending.root
    ∙ ap (λ (x : Slot). combined l.span x.span) q.root in
    subst (λ p. Pending (respan t p) m₀ (record s { span = end }) m') end_is
    (respanned t end m₀ m' s (law (node l ts) (node k us) m₀ m₁ w.pending w.last q h))

-- a tree's kind is its root's
kind_known :
    (op : SyntaxKind) (l : Label) (ts : Trees) (s : Slot) (m m' : Memory) (b : Bool) → is (merging_of op) s.kind ≡ b →
    Pending (node l ts) m s m' → is (merging_of op) l.kind ≡ b
kind_known op l ts s m m' b e p = ap (λ (x : Slot). is (merging_of op) x.kind) (sym p.root) ∙ e

-- an operator that goes on with its left side
pub going_on :
    (op : SyntaxKind) (s : Slot) (m' : Memory) → is (merging_of op) s.kind ≡ true →
    (t : Tree) (m : Memory) → Pending t m s m' → Pending (opened_by op t) m s m'
going_on op s m' e (node l ts) m p =
    let P : Bool → Type 0 =
    λ b. Pending (cond b (node l ts) (unary (unwrap_or (node_of op) Blank) l.span (node l ts))) m s m' in
    subst P (sym (kind_known op l ts s m m' true e p)) p

-- an operator that makes a new node above it
pub going_above :
    (op : SyntaxKind) (kind : NodeKind) (s s' : Slot) (n m' : Memory) → is (merging_of op) s.kind ≡ false →
    kind ≡ unwrap_or (node_of op) Blank →
    (t : Tree) (m : Memory) → Pending t m s n → Pending (unary kind s.span t) m s' m' → Pending (opened_by op t) m s' m'
going_above op kind s s' n m' e f (node l ts) m p q =
    let t : Tree = node l ts in
    let made : NodeKind = unwrap_or (node_of op) Blank in
    let P : Bool → Type 0 = λ b. Pending (cond b t (unary made l.span t)) m s' m' in
    subst P (sym (kind_known op l ts s m n false e p))
    (subst (λ x. Pending (unary made x t) m s' m') (ap (λ (x : Slot). x.span) p.root)
    (subst (λ x. Pending (unary x s.span t) m s' m') f q))

-- the left side once its operator is read, as the trees of operator lists have it
pub opened_is : (o : Operator) (t : Tree) → opened making o t ≡ opened_by o.kind t
opened_is o t = refl

further_of : (b : Bool) (t u v : Tree) → further (cond b t u) v ≡ cond b (further t v) (further u v)
further_of true t u v = refl
further_of false t u v = refl

eqb_turned : (m n : ℕ) → eqb m n ≡ eqb n m
eqb_turned m n = grind arith

-- a name behind a dot
pub field_is : (l t : Tree) → further (opened_by DOT l) t ≡ field l t
unfolding merging_of node_of
field_is (node l ts) t =
    further_of (eqb (number_of FieldAccess) (number_of l.kind)) (node l ts) (unary FieldAccess l.span (node l ts)) t
    ∙ ap (λ b. cond b (further (node l ts) t) (further (unary FieldAccess l.span (node l ts)) t))
    (eqb_turned (number_of FieldAccess) (number_of l.kind))

-- trees with others behind them
abbrev pub joined : Trees → Trees → Trees
joined ts none = ts
joined ts (more u us) = joined (behind ts u) us

joined_more : (t : Tree) (ts us : Trees) → joined (more t ts) us ≡ more t (joined ts us)
joined_more t ts none = refl
joined_more t ts (more u us) = joined_more t (behind ts u) us

pub joined_none : (us : Trees) → joined none us ≡ us
joined_none none = refl
joined_none (more u us) = joined_more u none us ∙ ap (more u) (joined_none us)

-- further trees, up to the end of the last of them or to elsewhere
furthers_across :
    (k : NodeKind) (s : Span) (x : Tree) (ts us : Trees) →
    furthers (node (plain k (up_to s x)) ts) us ≡ node (plain k (up_to s (last_of x us))) (joined ts us)
furthers_across k s x ts none = refl
furthers_across k s x ts (more u us) = furthers_across k s u (behind ts u) us

pub furthers_respanned :
    (l : Label) (ts us : Trees) (p : Span) → respan (furthers (node l ts) us) p ≡ node (record l { span = p }) (joined ts us)
furthers_respanned l ts none p = refl
furthers_respanned l ts (more u us) p = furthers_respanned (longer l (label_at u)) (behind ts u) us p

-- a node above the first of a list, and the others behind it
pub listed_is : (k : NodeKind) (t : Tree) (us : Trees) → furthers (unary k (span_of_tree t) t) us ≡ listed k t us
listed_is k t us =
    furthers_across k (span_of_tree t) t (more t none) us
    ∙ ap (node (plain k (across t us))) (joined_more t none us ∙ ap (more t) (joined_none us))
