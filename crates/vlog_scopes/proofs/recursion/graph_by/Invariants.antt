use Rattle.std.proofs.Common.{◌≡◌, ◌++◌, drop, map}
use Rattle.vlog_design.specs.Tables.{modules_of}
use Rattle.vlog_scopes.specs.Instances.{numbers_in}
use Rattle.vlog_scopes.proofs.recursion.graph_by.Given as goal

abbrev pub invariant-loop-m : goal.invariant-loop-m
invariant-loop-m l = l.graph.items ++ map (numbers_in l.names) (modules_of (drop l.m-index l.modules)) ≡ map (numbers_in l.names) (modules_of l.modules)
