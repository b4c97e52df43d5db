use Rattle.grammar.proofs.Accepting.{accepted_holds}
use Rattle.grammar.proofs.accepted_slots_hold_the_tree.Goals as goal

pub returns : goal.returns
returns c = accepted_holds
