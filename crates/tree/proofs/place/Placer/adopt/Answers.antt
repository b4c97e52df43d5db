use Rattle.std.proofs.Common.{rules}
use Rattle.tree.specs.Memory.{memory_of}
use Rattle.tree.proofs.Pendings.{grows_from}
use Rattle.tree.proofs.place.Placer.adopt.Goals as goal

pub returns-then-parent-eq0-clause-grows : goal.returns-then-parent-eq0-clause-grows
returns-then-parent-eq0-clause-grows c =
    grows_from c.args.parent.root c.args.parent.last c.args.self.now.root (memory_of c.args.self.now) _ _ (search rules) (search rules)

pub returns-else-parent-eq0-clause-grows : goal.returns-else-parent-eq0-clause-grows
returns-else-parent-eq0-clause-grows c =
    grows_from c.args.parent.root c.args.parent.last c.args.self.now.root (memory_of c.args.self.now) _ _ (search rules) (search rules)
