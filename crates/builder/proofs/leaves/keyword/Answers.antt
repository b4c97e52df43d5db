use Rattle.std.proofs.Common.{refl}
use Rattle.reader.specs.declared.mark.Mark.TheVariants.{Token, End}
use Rattle.reader.proofs.Takes.{sample}
use Rattle.tree.proofs.Pendings.{leaf_pending_at}
use Rattle.builder.proofs.Steps.{begun, take_err, rooted, expect_ok, last_one}
use Rattle.builder.proofs.leaves.keyword.Goals as goal

pub returns-in_err-span : goal.returns-in_err-span
returns-in_err-span c =
    take_err (Token c.args.kind) (sample (End c.args.close)) (begun 0 _ _ _) c.in_err-span.ensures _ c.from_residual.ensures.1

pub returns : goal.returns
returns c =
    last_one (End c.args.close) _ refl (rooted (expect_ok c.args.kind c.requires (begun 0 _ _ _) c.in_ok-span.ensures)) c.end.ensures
    (λ s y a. leaf_pending_at _ _ _ refl c.new-out.ensures)
