use Rattle.std.proofs.Common.{rules}
use Rattle.tree.specs.Memory.{memory_of}
use Rattle.tree.proofs.Pendings.{completes_from}
use Rattle.tree.proofs.place.Placer.tidy.Goals as goal

pub returns-clause-completes : goal.returns-clause-completes
returns-clause-completes c = completes_from (memory_of c.args.self.now) _ (search rules)
