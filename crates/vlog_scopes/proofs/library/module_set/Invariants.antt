use Rattle.std.proofs.Common.{◌≡◌, ◌++◌, drop}
use Rattle.vlog_design.specs.Tables.{modules_of}
use Rattle.vlog_scopes.specs.Distinct.{module_names}
use Rattle.vlog_scopes.proofs.library.module_set.Given as goal

abbrev pub invariant-loop-m : goal.invariant-loop-m
invariant-loop-m l = l.set ++ module_names (modules_of (drop l.m-index l.modules)) ≡ module_names (modules_of l.modules)
