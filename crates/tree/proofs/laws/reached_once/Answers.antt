use Rattle.tree.proofs.Held.{reached_once_lem}
use Rattle.tree.proofs.laws.reached_once.Goals as goal

pub returns : goal.returns
returns c = reached_once_lem
