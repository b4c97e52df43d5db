use Rattle.std.proofs.Common.{sym, ap, ⊎_elim, arith}
use Rattle.tree.specs.Memory.{linked}
use Rattle.tree.proofs.Stores.{linked_set, linked_past}
use Rattle.tree.proofs.place.link.Goals as goal

pub returns-then-last-slots : goal.returns-then-last-slots
returns-then-last-slots c = linked_set c.args.slots.now c.args.last c.args.next _ (omega arith) (omega arith)

pub returns-else-last-ne0 : goal.returns-else-last-ne0
returns-else-last-ne0 c =
    sym
    (⊎_elim (λ h. linked_past c.args.slots.now c.args.last c.args.next h.1)
    (λ h. ap (λ k. linked c.args.slots.now k c.args.next) h)
    c.else-last-ne0.either)
