use Rattle.tree.proofs.Equal.{eq_is_same}
use Rattle.tree.proofs.node.NodeKind.number.Goals as goal

pub returns-clause-same : goal.returns-clause-same
returns-clause-same c = λ k. eq_is_same c.args.self k
