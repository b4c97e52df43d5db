use Rattle.std.proofs.Common.{refl}
use Rattle.reader.specs.declared.mark.Mark.TheVariants.{Token, End}
use Rattle.kinds.specs.declared.kind.SyntaxKind.TheVariants.{REGEXP, TERM}
use Rattle.literal.specs.Regexps.{regexp_of}
use Rattle.reader.proofs.Takes.{sample}
use Rattle.builder.proofs.Steps.{begun, take_err, literal_err, literal_ok, rooted, last_one, regexp_refusal, of_source, regexp_made}
use Rattle.builder.proofs.leaves.regexp_term.Goals as goal

pub returns-in_err-span : goal.returns-in_err-span
returns-in_err-span c =
    take_err (Token REGEXP) (sample (End TERM)) (begun 0 _ _ _) c.in_err-span.ensures _ c.from_residual.ensures.1

pub returns-in_err-regexp : goal.returns-in_err-regexp
returns-in_err-regexp c =
    literal_err REGEXP (regexp_refusal _ c.in_ok-span.span _ (of_source regexp_of c.in_ok-span.span c.expect.ensures.kept c.in_err-regexp.ensures)) (sample (End TERM)) (begun 0 _ _ _) c.in_ok-span.ensures _
    c.from_residual-in_err-regexp.ensures.1

pub returns : goal.returns
returns c =
    let e = of_source regexp_of c.in_ok-span.span c.expect.ensures.kept c.in_ok-regexp.ensures in
    last_one (End TERM) _ refl (rooted (literal_ok REGEXP (regexp_refusal _ c.in_ok-span.span _ e) (begun 0 _ _ _) c.in_ok-span.ensures)) c.end.ensures
    (λ s y a. regexp_made c.in_ok-regexp.regexp c.in_ok-span.span _ e c.regexp_slot-out.ensures)
