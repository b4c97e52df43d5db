use Rattle.std.proofs.Common.{Some, None, sym, subst, arith}
use Rattle.std.proofs.lemmas.Str.Pattern.{strip_prefix_char}
use Rattle.literal.proofs.Slashes.{Parts, unopened, parts}
use Rattle.literal.proofs.regexp.split_slashes.Goals as goal

pub returns-in_err-strip_prefix : goal.returns-in_err-strip_prefix
returns-in_err-strip_prefix c = subst (λ x. Parts c.args.re.now x) (sym c.from_residual.ensures) (unopened c.args.re.now (strip_prefix_char 47 c.args.re.now None c.in_err-strip_prefix.ensures.cases (omega arith)))

pub returns : goal.returns
returns c = parts c.args.re.now c.in_ok-strip_prefix.field-0.now c.rsplit_once.result (strip_prefix_char 47 c.args.re.now (Some c.in_ok-strip_prefix.field-0) c.in_ok-strip_prefix.ensures.cases (omega arith)) c.rsplit_once.ensures.cases
