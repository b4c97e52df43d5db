-- `==` on an optional kind of node.
use Rattle.std.proofs.Common.{◌≡◌, Some, None, Option, refl}
use Rattle.std.specs.Option.{option_eq}
use Rattle.tree.specs.declared.node.NodeKind.{NodeKind}
use Rattle.tree.specs.contracts.node.NodeKindPartialEq.TheImpl.{ghosts}
use Rattle.tree.proofs.Equal.{eq_is_same}
use Rattle.operators.specs.Nodes.{is}

pub option_is : (o : Option NodeKind) (k : NodeKind) → option_eq ghosts.eq o (Some k) ≡ is o k
option_is None k = refl
option_is (Some n) k = eq_is_same n k
