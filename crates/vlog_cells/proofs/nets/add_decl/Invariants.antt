use Rattle.std.proofs.Common.{◌≡◌, ◌++◌, drop, flat_map}
use Rattle.vlog_design.specs.Design.{wire_nets}
use Rattle.vlog_cells.specs.Nets.{wires_named}
use Rattle.vlog_cells.proofs.nets.add_decl.Given as goal

abbrev pub invariant-loop-name : goal.invariant-loop-name
invariant-loop-name l = l.made.items ++ flat_map wire_nets (wires_named l.table l.fn.decl (drop l.name-index l.fn.decl.names)) ≡ l.initial.made.items ++ flat_map wire_nets (wires_named l.table l.fn.decl l.fn.decl.names)
