use Rattle.tree.specs.Memory.{memory_of}
use Rattle.builder.proofs.Growths.{adopting, reaching}
use Rattle.builder.proofs.grow.further.Goals as goal

pub returns : goal.returns
returns c =
    record {
      grew = adopting c.args.parent _ _ c.args.out.now c.adopt.new.self c.adopt.ensures.after;
      law =
          reaching c.args.parent c.args.out.now.root c.adopt.new.self.root (memory_of c.args.out.now)
          (memory_of c.adopt.new.self) c.combine-span.result c.combine-span.ensures c.adopt.ensures.grows;
    }
