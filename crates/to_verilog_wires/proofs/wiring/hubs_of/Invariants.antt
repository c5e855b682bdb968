use Rattle.std.proofs.Common.{take}
use Rattle.to_verilog_wires.specs.Given.{GivesHubs}
use Rattle.to_verilog_wires.proofs.wiring.hubs_of.Given as goal

abbrev pub invariant-loop-root : goal.invariant-loop-root
invariant-loop-root l = GivesHubs l.cell l.groups (take l.root-index l.roots) l.hubs.entries l.wires
