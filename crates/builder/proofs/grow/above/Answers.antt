use Rattle.tree.specs.Trees.Tree.{node}
use Rattle.tree.specs.Trees.Trees.{none}
use Rattle.builder.proofs.Growths.{bare_waits}
use Rattle.builder.proofs.grow.above.Goals as goal

pub returns : goal.returns
returns c =
    record {
      grew = c.further.ensures.grew;
      law = λ l b h t m p. c.further.ensures.law (node l none) t m m (bare_waits l _ m b) p h;
    }
