use Rattle.std.proofs.Common.{◌≡◌, ◌++◌, drop, flat_map, map}
use Rattle.vlog_design.specs.Names.{uses}
use Rattle.vlog_design.specs.Uses.{uses_of}
use Rattle.vlog_scopes.proofs.targets.push_lefts.Given as goal

abbrev pub invariant-loop-set : goal.invariant-loop-set
invariant-loop-set l = uses_of l.out.items ++ flat_map uses (map (λ set. set.left) (drop l.set-index l.sets)) ≡ uses_of l.initial.out.items ++ flat_map uses (map (λ set. set.left) l.sets)
