use Rattle.std.proofs.Common.{◌≡◌, ◌++◌, ◌∷◌, [], drop, flat_map}
use Rattle.vlog_design.specs.Names.{uses}
use Rattle.vlog_design.specs.Uses.{uses_of}
use Rattle.vlog_design.proofs.uses.push_assign_uses.Given as goal

abbrev pub invariant-loop-set : goal.invariant-loop-set
invariant-loop-set l = uses_of l.out.items ++ flat_map uses (flat_map (λ set. set.left ∷ set.right ∷ []) (drop l.set-index l.sets)) ≡ uses_of l.initial.out.items ++ flat_map uses (flat_map (λ set. set.left ∷ set.right ∷ []) l.sets)
