use Rattle.std.proofs.Common.{sym, ap, ◌∙◌}
use Rattle.tree.specs.Reads.{operands_at}
use Rattle.tree.proofs.Counts.{found, meets}
use Rattle.tree.proofs.Telling.{counts_from}
use Rattle.tree.proofs.read.Tree.operands.Goals as goal

pub returns : goal.returns
returns c =
    let slots = c.args.self.now.slots.now in
    let e =
    c.siblings.ensures
    ∙ ap (operands_at slots) (sym (found slots c.args.number c.in_ok-get.field-0 c.in_ok-get.ensures.lookup)) in
    record { value = e; counts = counts_from slots c.args.number _ e; cases = meets slots c.args.number _ e }
