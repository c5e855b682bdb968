use Rattle.std.proofs.Common.{◌∙◌, ap, arith}
use Rattle.edif_cells.specs.Values.{instance_at, instance_of}
use Rattle.edif_cells.proofs.Numbered.{map_numbered}
use Rattle.edif_cells.proofs.parts.instances_made.Goals as goal

pub loop-number-preserved : goal.loop-number-preserved
loop-number-preserved c =
    map_numbered c.args.instances.now c.loop-number.number c.index-instances-number.result (omega arith) c.index-instances-number.is (instance_at c.args.numbers.now c.args.below.now c.args.cells)
    c.loop-number.made _ c.in_ok-value.value c.loop-number.invariant c.in_ok-push.ensures.added (c.in_ok-value.ensures ∙ ap (λ n. instance_of n c.index-instances-number.result.now) c.number_of.ensures)
