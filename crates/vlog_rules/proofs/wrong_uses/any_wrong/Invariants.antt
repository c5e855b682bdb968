use Rattle.std.proofs.Common.{◌≡◌, drop}
use Rattle.std.specs.List.{list_any}
use Rattle.vlog_design.specs.Uses.{uses_of}
use Rattle.vlog_rules.specs.WrongUses.{is_wrong}
use Rattle.vlog_rules.proofs.wrong_uses.any_wrong.Given as goal

abbrev pub invariant-loop-u : goal.invariant-loop-u
invariant-loop-u l = list_any (is_wrong l.table) (uses_of (drop l.u-index l.uses)) ≡ list_any (is_wrong l.table) (uses_of l.uses)
