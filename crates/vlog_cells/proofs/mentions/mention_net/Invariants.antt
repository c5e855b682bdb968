use Rattle.std.proofs.Common.{◌≡◌, ◌++◌, drop, filter, ℕ, List, None}
use Rattle.vlog_cells.specs.Nets.{names_port}
use Rattle.vlog_cells.specs.Ports.{said_in_names, said_of}
use Rattle.vlog_cells.proofs.mentions.mention_net.Given as goal

abbrev pub invariant-loop-name : goal.invariant-loop-name
invariant-loop-name l = (key : List ℕ) →
    said_of l.found key ++ said_in_names (record { dir = None; attrs = l.fn.decl.attrs }) (filter (names_port l.table) (drop l.name-index l.fn.decl.names)) key
    ≡ said_of l.initial.found key ++ said_in_names (record { dir = None; attrs = l.fn.decl.attrs }) (filter (names_port l.table) l.fn.decl.names) key
