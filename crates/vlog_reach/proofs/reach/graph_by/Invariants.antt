use Rattle.std.proofs.Common.{◌≡◌, ◌++◌, drop, map}
use Rattle.vlog_design.specs.Reach.{instance_modules}
use Rattle.vlog_reach.specs.Places.{places_in}
use Rattle.vlog_reach.proofs.reach.graph_by.Given as goal

abbrev pub invariant-loop-m : goal.invariant-loop-m
invariant-loop-m l = l.graph.items ++ map (λ m. places_in l.names (instance_modules m)) (drop l.m-index l.modules) ≡ map (λ m. places_in l.names (instance_modules m)) l.modules
