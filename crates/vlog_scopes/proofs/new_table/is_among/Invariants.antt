use Rattle.std.proofs.Common.{◌≡◌, drop}
use Rattle.vlog_design.specs.Names.{has_name}
use Rattle.vlog_design.specs.Tables.{signals_of}
use Rattle.vlog_scopes.specs.Distinct.{signal_names}
use Rattle.vlog_scopes.proofs.new_table.is_among.Given as goal

abbrev pub invariant-loop-entry : goal.invariant-loop-entry
invariant-loop-entry l = has_name (signal_names (signals_of (drop l.entry-index l.entries))) l.name ≡ has_name (signal_names (signals_of l.entries)) l.name
