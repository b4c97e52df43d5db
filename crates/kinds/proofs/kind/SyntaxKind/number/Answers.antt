use Rattle.kinds.proofs.Equal.{eq_is_same}
use Rattle.kinds.proofs.kind.SyntaxKind.number.Goals as goal

pub returns-clause-same : goal.returns-clause-same
returns-clause-same c = λ k. eq_is_same c.args.self k
