use Rattle.std.proofs.Common.{take, codes}
use Rattle.net_bits.specs.Names.{AreUsed}
use Rattle.to_spice_nodes.specs.Table.{GivesNodes}
use Rattle.to_spice_nodes.proofs.nodes.Nodes.name_pins.Given as goal

abbrev pub invariant-loop-pin : goal.invariant-loop-pin
invariant-loop-pin l = GivesNodes l.cell l.classes (take l.pin-index l.pins) l.initial.self l.self l.names × AreUsed l.self.used (codes "n") l.self.next
