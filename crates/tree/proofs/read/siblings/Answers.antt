use Rattle.std.proofs.Common.{◌-◌, ◌∙◌, arith}
use Rattle.tree.proofs.Counts.{found, loop_step}
use Rattle.tree.proofs.read.siblings.Goals as goal

pub loop-count-preserved : goal.loop-count-preserved
loop-count-preserved c =
    c.loop-count.invariant
    ∙ loop_step c.args.slots.now c.loop-count.count c.loop-count.link c.in_ok-link.field-0.now (omega arith)
    c.if-link-eq0.false
    (found c.args.slots.now (c.loop-count.link - 1) c.in_ok-link.field-0 c.in_ok-link.ensures.lookup)
