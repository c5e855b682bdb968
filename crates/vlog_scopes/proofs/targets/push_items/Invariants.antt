use Rattle.std.proofs.Common.{◌≡◌, ◌++◌, drop, flat_map}
use Rattle.vlog_design.specs.Names.{item_targets, uses}
use Rattle.vlog_design.specs.Uses.{uses_of}
use Rattle.vlog_scopes.proofs.targets.push_items.Given as goal

abbrev pub invariant-loop-item : goal.invariant-loop-item
invariant-loop-item l = uses_of l.out.items ++ flat_map uses (flat_map item_targets (drop l.item-index l.items)) ≡ uses_of l.initial.out.items ++ flat_map uses (flat_map item_targets l.items)
