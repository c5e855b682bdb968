use Rattle.std.proofs.Common.{◌≡◌, map, take}
use Rattle.edif_design.specs.Design.{net_value}
use Rattle.edif_rules.specs.Lists.{seen}
use Rattle.edif_cells.proofs.parts.nets_made.Given as goal

abbrev pub invariant-loop-net : goal.invariant-loop-net
invariant-loop-net l = l.made ≡ map net_value (seen (take l.net-index l.nets))
