use Rattle.std.proofs.Common.{refl, ap, ◌∙◌, arith}
use Rattle.syntax.specs.Spans.{span_of}
use Rattle.tree.specs.declared.node.NodeKind.TheVariants.{Ident, Sub}
use Rattle.tree.specs.declared.place.Aside.{Aside}
use Rattle.tree.specs.Labels.{Label, plain}
use Rattle.tree.specs.Memory.{Memory, memory_of, Pending}
use Rattle.tree.specs.Trees.Tree.{node}
use Rattle.tree.specs.Trees.Trees.{none, more}
use Rattle.tree.proofs.Pendings.{leaf_pending_at, raised}
use Rattle.gathnomir.specs.Demo.{with_name}
use Rattle.gathnomir.proofs.demo.inner.Goals as goal

pub returns : goal.returns
returns c few =
    let m : Memory = memory_of c.args.placer.now in
    let b : Label = with_name Ident (span_of 5 6) in
    let sub : Label = plain Sub (span_of 5 10) in
    let first = leaf_pending_at b m c.named-placer.result refl c.named-placer.ensures in
    let m₁ : Memory = memory_of c.raise.new.self in
    let begun =
    raised sub (node b none) c.node.result m.used m m m₁ c.named-placer.result c.raise.new.self.root refl
    c.node.ensures
    first
    (omega arith)
    c.raise.ensures.grows in
    let aside = c.put_aside-left.ensures in
    let left : Pending (node sub (more (node b none) none)) m c.put_aside-left.result.root m₁ =
    record { root = ap (λ (x : Aside). x.root) aside ∙ begun.root; memory = begun.memory } in
    let second = leaf_pending_at (with_name Ident (span_of 9 10)) m₁ c.named-placer-2.result refl c.named-placer-2.ensures in
    let used = ap (λ (x : Memory). x.used) begun.memory in
    c.adopt.ensures.grows (node sub (more (node b none) none)) (node (with_name Ident (span_of 9 10)) none) m m₁ left (λ z. ap (λ (x : Aside). x.last) aside)
    second
    (omega (arith, used, few))
