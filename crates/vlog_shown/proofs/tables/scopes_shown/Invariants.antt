use Rattle.std.proofs.Common.{◌≡◌, ◌++◌, drop}
use Rattle.vlog_ties.specs.Ties.{modules_in}
use Rattle.vlog_shown.proofs.tables.scopes_shown.Given as goal

abbrev pub invariant-loop-m : goal.invariant-loop-m
invariant-loop-m l = modules_in l.scopes.items ++ drop l.m-index l.shown ≡ l.shown
