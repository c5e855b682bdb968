use Rattle.std.proofs.Common.{◌≡◌, ◌++◌, drop, map, flat_map}
use Rattle.vlog_cells.specs.Ports.{port_by}
use Rattle.vlog_cells.proofs.ports.add_declared.Given as goal

abbrev pub invariant-loop-decl : goal.invariant-loop-decl
invariant-loop-decl l = l.made ++ map (port_by l.table l.found) (flat_map (λ decl. decl.names) (drop l.decl-index l.decls)) ≡ l.initial.made ++ map (port_by l.table l.found) (flat_map (λ decl. decl.names) l.decls)
