use Rattle.std.proofs.Common.{◌≡◌, ◌++◌, drop, flat_map}
use Rattle.vlog_design.specs.Design.{wire_nets}
use Rattle.vlog_design.specs.Names.{net_decl}
use Rattle.vlog_cells.specs.Nets.{wires_in}
use Rattle.vlog_cells.proofs.nets.add_items.Given as goal

abbrev pub invariant-loop-item : goal.invariant-loop-item
invariant-loop-item l = l.made.items ++ flat_map wire_nets (wires_in l.table (flat_map net_decl (drop l.item-index l.items))) ≡ l.initial.made.items ++ flat_map wire_nets (wires_in l.table (flat_map net_decl l.items))
