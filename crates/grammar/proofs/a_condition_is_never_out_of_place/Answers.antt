use Rattle.grammar.proofs.Laws.{never_out_of_place}
use Rattle.grammar.proofs.a_condition_is_never_out_of_place.Goals as goal

pub returns : goal.returns
returns c = never_out_of_place
