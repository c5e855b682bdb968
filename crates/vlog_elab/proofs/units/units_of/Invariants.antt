use Rattle.std.proofs.Common.{◌≡◌, ◌-◌, ◌^◌, min, sum_by, take}
use Rattle.vlog_ties.specs.Ties.{modules_in}
use Rattle.vlog_elab.specs.Units.{module_units}
use Rattle.vlog_elab.proofs.units.units_of.Given as goal

abbrev pub invariant-loop-scope : goal.invariant-loop-scope
invariant-loop-scope l = l.count ≡ min (2 ^ 64 - 1) (sum_by (module_units (modules_in l.scopes)) (modules_in (take l.scope-index l.scopes)))
