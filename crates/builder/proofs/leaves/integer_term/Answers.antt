use Rattle.std.proofs.Common.{refl, sym}
use Rattle.reader.specs.declared.mark.Mark.TheVariants.{Token, End}
use Rattle.kinds.specs.declared.kind.SyntaxKind.TheVariants.{INTEGER_LIT, TERM}
use Rattle.literal.specs.Integers.{integer_of}
use Rattle.reader.proofs.Takes.{sample}
use Rattle.builder.proofs.Steps.{begun, take_err, literal_err, literal_ok, rooted, last_ok, last_err, integer_refusal, of_source, integer_made}
use Rattle.builder.proofs.leaves.integer_term.Goals as goal

pub returns-in_err-span : goal.returns-in_err-span
returns-in_err-span c =
    take_err (Token INTEGER_LIT) (sample (End TERM)) (begun 0 _ _ _) c.in_err-span.ensures _ c.from_residual.ensures.1

pub returns-in_err-integer : goal.returns-in_err-integer
returns-in_err-integer c =
    literal_err INTEGER_LIT (integer_refusal _ c.in_ok-span.span _ (of_source integer_of c.in_ok-span.span c.expect.ensures.kept c.in_err-integer.ensures)) (sample (End TERM)) (begun 0 _ _ _) c.in_ok-span.ensures _
    c.from_residual-in_err-integer.ensures.1

pub returns-in_err-end : goal.returns-in_err-end
returns-in_err-end c =
    let e = of_source integer_of c.in_ok-span.span c.expect.ensures.kept c.in_ok-integer.ensures in
    last_err (End TERM) (rooted (literal_ok INTEGER_LIT (integer_refusal _ c.in_ok-span.span _ e) (begun 0 _ _ _) c.in_ok-span.ensures)) c.in_err-end.ensures _
    c.from_residual-in_err-end.ensures.1

pub returns : goal.returns
returns c =
    let e = of_source integer_of c.in_ok-span.span c.expect.ensures.kept c.in_ok-integer.ensures in
    last_ok (End TERM) refl (rooted (literal_ok INTEGER_LIT (integer_refusal _ c.in_ok-span.span _ e) (begun 0 _ _ _) c.in_ok-span.ensures)) c.in_ok-end.ensures
    (λ s a. (sym e, integer_made c.in_ok-integer.integer c.in_ok-span.span _ e c.integer_slot-out.ensures))
