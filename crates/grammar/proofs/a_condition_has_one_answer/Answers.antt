use Rattle.grammar.proofs.OneAnswer.{one_answer}
use Rattle.grammar.proofs.a_condition_has_one_answer.Goals as goal

pub returns : goal.returns
returns c = one_answer
