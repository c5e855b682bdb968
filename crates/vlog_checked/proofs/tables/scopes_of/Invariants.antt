use Rattle.std.proofs.Common.{◌≡◌, ◌++◌, drop}
use Rattle.vlog_design.specs.Tables.{modules_of}
use Rattle.vlog_ties.specs.Ties.{modules_in}
use Rattle.vlog_checked.proofs.tables.scopes_of.Given as goal

abbrev pub invariant-loop-m : goal.invariant-loop-m
invariant-loop-m l = modules_in l.scopes.items ++ modules_of (drop l.m-index l.modules) ≡ modules_of l.modules
