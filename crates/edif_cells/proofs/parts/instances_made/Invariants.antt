use Rattle.std.proofs.Common.{◌≡◌, map, take}
use Rattle.edif_design.specs.Parts.{numbered}
use Rattle.edif_rules.specs.Lists.{seen}
use Rattle.edif_cells.specs.Values.{instance_at}
use Rattle.edif_cells.proofs.parts.instances_made.Given as goal

abbrev pub invariant-loop-number : goal.invariant-loop-number
invariant-loop-number l = l.made ≡ map (instance_at l.numbers l.below l.cells) (numbered (seen (take l.number l.instances)))
