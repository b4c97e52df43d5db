use Rattle.grammar.proofs.Own.{own_extent}
use Rattle.grammar.proofs.a_condition_is_its_own_extent.Goals as goal

pub returns : goal.returns
returns c = own_extent
