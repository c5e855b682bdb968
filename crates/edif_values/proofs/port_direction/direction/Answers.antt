use Rattle.std.proofs.Common.{arith}
use Rattle.edif_values.proofs.Told.{directions_told}
use Rattle.edif_values.proofs.port_direction.direction.Goals as goal

pub loop-item-init : goal.loop-item-init
loop-item-init c = grind (arith, directions_told)

pub returns-in-Some : goal.returns-in-Some
returns-in-Some c = grind (arith, directions_told)

pub loop-item-preserved : goal.loop-item-preserved
loop-item-preserved c = grind (arith, directions_told)

pub returns : goal.returns
returns c = grind (arith, directions_told)
