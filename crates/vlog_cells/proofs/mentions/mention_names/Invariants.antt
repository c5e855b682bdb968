use Rattle.std.proofs.Common.{◌≡◌, ◌++◌, drop, ℕ, List}
use Rattle.vlog_cells.specs.Ports.{said, said_in_names, said_of}
use Rattle.vlog_cells.proofs.mentions.mention_names.Given as goal

abbrev pub invariant-loop-name : goal.invariant-loop-name
invariant-loop-name l = (key : List ℕ) → said_of l.found key ++ said_in_names (said l.mention) (drop l.name-index l.names) key ≡ said_of l.initial.found key ++ said_in_names (said l.mention) l.names key
