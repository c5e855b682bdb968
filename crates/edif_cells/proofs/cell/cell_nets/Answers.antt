use Rattle.std.proofs.Common.{◌∙◌, ap, map}
use Rattle.std.specs.List.{filter_map}
use Rattle.edif_design.specs.Design.{net_value}
use Rattle.edif_design.specs.Parts.{net_in}
use Rattle.edif_rules.specs.Lists.{seen}
use Rattle.edif_cells.proofs.cell.cell_nets.Goals as goal

pub returns : goal.returns
returns c =
    c.in_ok-made.ensures
    ∙ ap (map net_value) (ap seen c.as_slice-2.ensures.value ∙ (c.in_ok-nets.ensures ∙ ap (filter_map net_in) (ap seen c.as_slice.ensures.value ∙ c.in_ok-items.ensures)))
