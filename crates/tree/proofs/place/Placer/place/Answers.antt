use Rattle.std.proofs.Common.{rules}
use Rattle.tree.specs.Memory.{memory_of}
use Rattle.tree.proofs.Pendings.{lays_from}
use Rattle.tree.proofs.place.Placer.place.Goals as goal

pub returns-clause-lays : goal.returns-clause-lays
returns-clause-lays c = lays_from c.args.self.now.root (memory_of c.args.self.now) _ (search rules)
