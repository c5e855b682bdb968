use Rattle.std.proofs.Common.{◌≡◌, drop}
use Rattle.std.specs.List.{list_any}
use Rattle.vlog_design.specs.Uses.{uses_of}
use Rattle.vlog_scopes.specs.Implicit.{is_unknown}
use Rattle.vlog_scopes.proofs.known.any_unknown.Given as goal

abbrev pub invariant-loop-u : goal.invariant-loop-u
invariant-loop-u l = list_any (is_unknown l.table) (uses_of (drop l.u-index l.uses)) ≡ list_any (is_unknown l.table) (uses_of l.uses)
