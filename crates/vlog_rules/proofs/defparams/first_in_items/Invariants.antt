use Rattle.std.proofs.Common.{◌≡◌, drop, find, flat_map, not}
use Rattle.vlog_design.specs.Names.{defparam_statement, has_name}
use Rattle.vlog_rules.proofs.defparams.first_in_items.Given as goal

abbrev pub invariant-loop-item : goal.invariant-loop-item
invariant-loop-item l = find (λ set. not (has_name l.names set.instance)) (flat_map (λ item. flat_map (λ statement. statement.sets) (defparam_statement item)) (drop l.item-index l.items)) ≡ find (λ set. not (has_name l.names set.instance)) (flat_map (λ item. flat_map (λ statement. statement.sets) (defparam_statement item)) l.items)
