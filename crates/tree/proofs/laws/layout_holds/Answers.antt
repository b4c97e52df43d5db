use Rattle.tree.proofs.Held.{layout_holds_lem}
use Rattle.tree.proofs.laws.layout_holds.Goals as goal

pub returns : goal.returns
returns c = layout_holds_lem
