use Rattle.std.proofs.Common.{◌≡◌, ◌++◌, drop, ℕ, List, flat_map}
use Rattle.vlog_design.specs.Names.{defparam_statement}
use Rattle.vlog_cells.specs.Instances.{sets_for, sets_under}
use Rattle.vlog_cells.proofs.instances.sets_in.Given as goal

abbrev pub invariant-loop-item : goal.invariant-loop-item
invariant-loop-item l = (key : List ℕ) → sets_under l.found key ++ sets_for key (flat_map (λ item. flat_map (λ statement. statement.sets) (defparam_statement item)) (drop l.item-index l.fn.m.items)) ≡ sets_for key (flat_map (λ item. flat_map (λ statement. statement.sets) (defparam_statement item)) l.fn.m.items)
