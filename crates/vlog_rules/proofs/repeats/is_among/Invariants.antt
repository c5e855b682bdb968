use Rattle.std.proofs.Common.{◌≡◌, drop}
use Rattle.vlog_design.specs.Names.{has_name}
use Rattle.vlog_design.specs.Tables.{names_of}
use Rattle.vlog_rules.proofs.repeats.is_among.Given as goal

abbrev pub invariant-loop-other : goal.invariant-loop-other
invariant-loop-other l = has_name (names_of (drop l.other-index l.names)) l.name ≡ has_name (names_of l.names) l.name
