use Rattle.std.proofs.Common.{◌≡◌, drop, find}
use Rattle.vlog_design.specs.Rules.{bad_select_in}
use Rattle.vlog_design.specs.Uses.{uses_of}
use Rattle.vlog_rules.proofs.selects.first_bad.Given as goal

abbrev pub invariant-loop-u : goal.invariant-loop-u
invariant-loop-u l = find (bad_select_in l.table) (uses_of (drop l.u-index l.uses)) ≡ find (bad_select_in l.table) (uses_of l.uses)
