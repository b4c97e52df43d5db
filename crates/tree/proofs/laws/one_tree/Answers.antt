use Rattle.tree.proofs.Uniqueness.{one_tree_lem}
use Rattle.tree.proofs.laws.one_tree.Goals as goal

pub returns : goal.returns
returns c = one_tree_lem
