use Rattle.std.proofs.Common.{◌≡◌, ◌++◌, drop}
use Rattle.vlog_cells.proofs.parts.names_copied.Given as goal

abbrev pub invariant-loop-name : goal.invariant-loop-name
invariant-loop-name l = l.made ++ drop l.name-index l.names ≡ l.names
