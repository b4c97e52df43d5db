use Rattle.std.proofs.Common.{sym, ap, ◌∙◌}
use Rattle.std.specs.Option.{unwrap_or}
use Rattle.tree.specs.declared.node.NodeKind.TheVariants.{Blank}
use Rattle.tree.specs.Memory.{memory_of}
use Rattle.builder.proofs.Growths.{stayed, going_on, going_above}
use Rattle.builder.proofs.grow.open.Goals as goal

pub returns-then-not-goes_on : goal.returns-then-not-goes_on
returns-then-not-goes_on c =
    record {
      grew = c.raise.ensures.grew;
      law =
          λ h t m p.
          going_above c.args.op c.unwrap_or.result c.args.out.now.root c.raise.new.out.root (memory_of c.args.out.now)
          (memory_of c.raise.new.out) (sym c.goes_on.ensures ∙ c.if-not-goes_on.true)
          (c.unwrap_or.ensures ∙ ap (λ x. unwrap_or x Blank) c.node.ensures.value)
          t m p
          (c.raise.ensures.law h t m p);
    }

pub returns-else-not-goes_on : goal.returns-else-not-goes_on
returns-else-not-goes_on c =
    record {
      grew = stayed 1 c.args.out.now;
      law =
          λ h.
          going_on c.args.op c.args.out.now.root (memory_of c.args.out.now) (sym c.goes_on.ensures ∙ c.if-not-goes_on.false);
    }
