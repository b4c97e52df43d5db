use Rattle.grammar.proofs.WorkedAnswers.{worked_answers}
use Rattle.grammar.proofs.worked_answers.Goals as goal

pub returns : goal.returns
returns c = worked_answers
