use Rattle.std.proofs.Common.{◌≡◌, drop, find, is_none}
use Rattle.vlog_design.specs.Names.{signal_named}
use Rattle.vlog_design.specs.Uses.{uses_of}
use Rattle.vlog_rules.proofs.unknown_names.first_unknown.Given as goal

abbrev pub invariant-loop-u : goal.invariant-loop-u
invariant-loop-u l = find (λ u. is_none (signal_named l.table u.name)) (uses_of (drop l.u-index l.uses)) ≡ find (λ u. is_none (signal_named l.table u.name)) (uses_of l.uses)
