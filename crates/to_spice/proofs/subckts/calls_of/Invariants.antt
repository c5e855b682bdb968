use Rattle.std.proofs.Common.{take, codes}
use Rattle.net_bits.specs.Names.{AreUsed}
use Rattle.to_spice.specs.Giving.{GivesCalls}
use Rattle.to_spice.proofs.subckts.calls_of.Given as goal

abbrev pub invariant-loop-number : goal.invariant-loop-number
invariant-loop-number l = GivesCalls l.hier.cells l.cell l.classes (take l.number l.instances) l.initial.nodes l.nodes l.calls × AreUsed l.nodes.used (codes "n") l.nodes.next
