use Rattle.std.proofs.Common.{◌≡◌, ◌++◌, drop, map}
use Rattle.vlog_written.specs.Written.{assign_item}
use Rattle.to_verilog_items.specs.Assigns.{assigns_among}
use Rattle.to_verilog_items.proofs.assigns.push_assigns_among.Given as goal

abbrev pub invariant-loop-node : goal.invariant-loop-node
invariant-loop-node l = l.items ++ map assign_item (assigns_among l.ports l.wiring (drop l.node-index l.nodes)) ≡ l.initial.items ++ map assign_item (assigns_among l.ports l.wiring l.nodes)
