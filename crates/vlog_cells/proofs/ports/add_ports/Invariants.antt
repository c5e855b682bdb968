use Rattle.std.proofs.Common.{◌≡◌, ◌++◌, drop, map}
use Rattle.vlog_cells.specs.Ports.{port_by}
use Rattle.vlog_cells.proofs.ports.add_ports.Given as goal

abbrev pub invariant-loop-name : goal.invariant-loop-name
invariant-loop-name l = l.made ++ map (port_by l.table l.found) (drop l.name-index l.names) ≡ l.initial.made ++ map (port_by l.table l.found) l.names
