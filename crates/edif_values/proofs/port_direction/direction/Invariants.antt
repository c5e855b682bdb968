use Rattle.std.proofs.Common.{◌≡◌, drop}
use Rattle.edif_values.specs.Directions.{direction_of}
use Rattle.edif_values.proofs.port_direction.direction.Given as goal

abbrev pub invariant-loop-item : goal.invariant-loop-item
invariant-loop-item l = direction_of (drop l.item-index l.port.items) ≡ direction_of l.port.items
