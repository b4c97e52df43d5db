use Rattle.std.proofs.Common.{rules}
use Rattle.tree.specs.Memory.{memory_of}
use Rattle.tree.proofs.Pendings.{writes_from}
use Rattle.tree.proofs.place.Placer.push.Goals as goal

pub returns-clause-writes : goal.returns-clause-writes
returns-clause-writes c = writes_from c.args.byte (memory_of c.args.self.now) _ (search rules)
