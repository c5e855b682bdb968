use Rattle.std.proofs.Common.{◌≡◌, drop}
use Rattle.std.specs.List.{list_any}
use Rattle.vlog_rules.specs.Defparams.{is_defparam}
use Rattle.vlog_rules.proofs.defparams.has_defparams.Given as goal

abbrev pub invariant-loop-item : goal.invariant-loop-item
invariant-loop-item l = list_any is_defparam (drop l.item-index l.items) ≡ list_any is_defparam l.items
