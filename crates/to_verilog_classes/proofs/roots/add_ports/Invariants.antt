use Rattle.std.proofs.Common.{take}
use Rattle.to_verilog_classes.specs.Roots.{AddsKeys, wide_among}
use Rattle.to_verilog_classes.proofs.roots.add_ports.Given as goal

abbrev pub invariant-loop-node : goal.invariant-loop-node
invariant-loop-node l = AddsKeys l.initial.ports.keys l.ports.keys (wide_among l.hier.cells l.cell (take l.node-index l.nodes))
