use Rattle.std.proofs.Common.{refl}
use Rattle.tree.specs.Labels.{plain}
use Rattle.builder.proofs.grow.raise.Goals as goal

pub returns : goal.returns
returns c =
    record {
      grew = c.above.ensures.grew;
      law = c.above.ensures.law (plain c.args.kind c.args.span) (record { slot = c.new.ensures; in_source = refl });
    }
