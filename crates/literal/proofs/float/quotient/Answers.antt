use Rattle.std.proofs.Common.{ℕ, ◌^◌, ◌≤◌, T, pos, ap, ◌∙◌, arith, le→leb}
use lib.Ieee.{binary64, in_float, div, of_int}
use Rattle.literal.proofs.Quotients.{tens, quotient}
use Rattle.literal.proofs.float.quotient.Goals as goal

holds : (n : ℕ) → n ≤ 2 ^ 53 → T (in_float binary64 (pos n))
unfolding in_float
holds n h = le→leb n (2 ^ 53) h

pub int_to_float-result-2 : goal.int_to_float-result-2
int_to_float-result-2 c = let h = tens c.args.places c.requires.1 in holds c.pow.result (omega (arith, c.pow.ensures))

pub returns : goal.returns
returns c =
    ap (λ n. div binary64 (of_int binary64 (pos c.args.digits)) (of_int binary64 (pos n))) c.pow.ensures
    ∙ quotient c.args.digits c.args.places c.requires.0 c.requires.1
