use Rattle.std.proofs.Common.{◌≡◌, ◌++◌, drop}
use Rattle.vlog_design.specs.Tables.{names_of}
use Rattle.vlog_cells.proofs.cell.texts_copied.Given as goal

abbrev pub invariant-loop-name : goal.invariant-loop-name
invariant-loop-name l = l.made.items ++ names_of (drop l.name-index l.names) ≡ names_of l.names
