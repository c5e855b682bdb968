use Rattle.std.proofs.Common.{◌≡◌, ◌++◌, drop}
use Rattle.vlog_design.specs.Tables.{signals_of}
use Rattle.vlog_scopes.proofs.new_table.index_of.Given as goal

abbrev pub invariant-loop-entry : goal.invariant-loop-entry
invariant-loop-entry l = l.table ++ signals_of (drop l.entry-index l.entries) ≡ signals_of l.entries
