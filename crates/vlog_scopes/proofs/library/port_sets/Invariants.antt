use Rattle.std.proofs.Common.{◌≡◌, ◌++◌, drop, map}
use Rattle.vlog_design.specs.Names.{port_names}
use Rattle.vlog_design.specs.Tables.{modules_of}
use Rattle.vlog_scopes.proofs.library.port_sets.Given as goal

abbrev pub invariant-loop-m : goal.invariant-loop-m
invariant-loop-m l = l.ports.items ++ map port_names (modules_of (drop l.m-index l.modules)) ≡ map port_names (modules_of l.modules)
