use Rattle.std.proofs.Common.{◌∙◌, ap, map}
use Rattle.edif_design.specs.Parts.{numbered}
use Rattle.edif_rules.specs.Lists.{seen}
use Rattle.edif_cells.specs.Values.{instance_at}
use Rattle.edif_cells.proofs.cell.cell_instances.Goals as goal

pub returns : goal.returns
returns c =
    c.in_ok-made.ensures
    ∙ ap (λ us. map (instance_at c.args.numbers.now c.args.below.now c.args.cells) (numbered us)) (ap seen c.as_slice.ensures.value ∙ c.in_ok-instances.ensures)
