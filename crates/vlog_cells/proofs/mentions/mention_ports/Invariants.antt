use Rattle.std.proofs.Common.{◌≡◌, ◌++◌, drop, ℕ, List, flat_map}
use Rattle.vlog_cells.specs.Ports.{port_said, said_of}
use Rattle.vlog_cells.proofs.mentions.mention_ports.Given as goal

abbrev pub invariant-loop-decl : goal.invariant-loop-decl
invariant-loop-decl l = (key : List ℕ) → said_of l.found key ++ flat_map (port_said key) (drop l.decl-index l.decls) ≡ said_of l.initial.found key ++ flat_map (port_said key) l.decls
