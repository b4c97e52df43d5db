use Rattle.grammar.proofs.OneCause.{cause_one}
use Rattle.grammar.proofs.an_event_gives_one_cause.Goals as goal

pub returns : goal.returns
returns c = cause_one
