use Rattle.std.proofs.Common.{refl}
use Rattle.reader.specs.declared.mark.Mark.TheVariants.{Token, End}
use Rattle.kinds.specs.declared.kind.SyntaxKind.TheVariants.{FLOAT_LIT, TERM}
use Rattle.literal.specs.Floats.{float_of}
use Rattle.reader.proofs.Takes.{sample}
use Rattle.builder.proofs.Steps.{begun, take_err, literal_err, literal_ok, rooted, last_one, float_refusal, of_source, float_made}
use Rattle.builder.proofs.leaves.float_term.Goals as goal

pub returns-in_err-span : goal.returns-in_err-span
returns-in_err-span c =
    take_err (Token FLOAT_LIT) (sample (End TERM)) (begun 0 _ _ _) c.in_err-span.ensures _ c.from_residual.ensures.1

pub returns-in_err-float : goal.returns-in_err-float
returns-in_err-float c =
    literal_err FLOAT_LIT (float_refusal _ c.in_ok-span.span _ (of_source float_of c.in_ok-span.span c.expect.ensures.kept c.in_err-float.ensures.value)) (sample (End TERM)) (begun 0 _ _ _) c.in_ok-span.ensures _
    c.from_residual-in_err-float.ensures.1

pub returns : goal.returns
returns c =
    let e = of_source float_of c.in_ok-span.span c.expect.ensures.kept c.in_ok-float.ensures.value in
    last_one (End TERM) _ refl (rooted (literal_ok FLOAT_LIT (float_refusal _ c.in_ok-span.span _ e) (begun 0 _ _ _) c.in_ok-span.ensures)) c.end.ensures
    (λ s y a. float_made c.in_ok-float.float c.in_ok-span.span _ e c.float_slot-out.ensures)
