use Rattle.literal.proofs.Quotients.{quotients}
use Rattle.literal.proofs.float.float_lit.Goals as goal

pub returns-clause-exact : goal.returns-clause-exact
returns-clause-exact c = quotients

pub returns-in_err-of-clause-exact : goal.returns-in_err-of-clause-exact
returns-in_err-of-clause-exact c = quotients
