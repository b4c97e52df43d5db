use Rattle.std.proofs.Common.{refl}
use Rattle.reader.specs.declared.mark.Mark.TheVariants.{Token}
use Rattle.kinds.specs.declared.kind.SyntaxKind.TheVariants.{IDENT}
use Rattle.tree.proofs.Pendings.{leaf_pending_at}
use Rattle.builder.proofs.Steps.{begun, rooted, name_last}
use Rattle.builder.proofs.leaves.identifier.Goals as goal

pub returns : goal.returns
returns c =
    name_last (Token IDENT) (rooted (begun 0 _ _ _)) c.in_ok-name.ensures
    (leaf_pending_at _ _ _ refl c.named-out.ensures)
