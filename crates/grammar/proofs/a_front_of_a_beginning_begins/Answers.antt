use Rattle.grammar.proofs.Laws.{fronts_begin}
use Rattle.grammar.proofs.a_front_of_a_beginning_begins.Goals as goal

pub returns : goal.returns
returns c = fronts_begin
