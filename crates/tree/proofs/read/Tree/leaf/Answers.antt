use Rattle.std.proofs.Common.{sym, ap, ◌∙◌}
use Rattle.tree.specs.Reads.{leaf_at}
use Rattle.tree.proofs.Counts.{found}
use Rattle.tree.proofs.Telling.{tells_from}
use Rattle.tree.proofs.read.Tree.leaf.Goals as goal

pub returns-clause-tells : goal.returns-clause-tells
returns-clause-tells c =
    let t = c.args.self.now in
    tells_from t.slots.now c.args.number t.source.now t.text.now _
    (c.slot_leaf.ensures
    ∙ ap (λ o. leaf_at o t.source.now t.text.now)
    (sym (found t.slots.now c.args.number c.in_ok-get.field-0 c.in_ok-get.ensures.lookup)))
