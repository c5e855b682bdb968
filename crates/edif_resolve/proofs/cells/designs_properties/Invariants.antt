use Rattle.std.proofs.Common.{◌≡◌, take}
use Rattle.std.specs.List.{flat_map}
use Rattle.edif_design.specs.Design.{design_properties}
use Rattle.edif_design.specs.Tables.{seen}
use Rattle.edif_resolve.proofs.cells.designs_properties.Given as goal

abbrev pub invariant-loop-design : goal.invariant-loop-design
invariant-loop-design l = l.props ≡ flat_map design_properties (seen (take l.design-index l.designs))
