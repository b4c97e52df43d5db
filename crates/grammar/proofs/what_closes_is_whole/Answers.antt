use Rattle.grammar.proofs.Laws.{closed_is_whole}
use Rattle.grammar.proofs.what_closes_is_whole.Goals as goal

pub returns : goal.returns
returns c = closed_is_whole
