use Rattle.std.proofs.Common.{◌≡◌, drop}
use Rattle.vlog_design.specs.Names.{signal_named}
use Rattle.vlog_design.specs.Tables.{signals_of}
use Rattle.vlog_design.proofs.table.find_among.Given as goal

abbrev pub invariant-loop-entry : goal.invariant-loop-entry
invariant-loop-entry l = signal_named (signals_of (drop l.entry-index l.entries)) l.name ≡ signal_named (signals_of l.entries) l.name
