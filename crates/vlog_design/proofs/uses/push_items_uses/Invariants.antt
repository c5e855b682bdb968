use Rattle.std.proofs.Common.{◌≡◌, ◌++◌, drop, flat_map}
use Rattle.vlog_design.specs.Names.{item_exprs, uses}
use Rattle.vlog_design.specs.Uses.{uses_of}
use Rattle.vlog_design.proofs.uses.push_items_uses.Given as goal

abbrev pub invariant-loop-item : goal.invariant-loop-item
invariant-loop-item l = uses_of l.out.items ++ flat_map uses (flat_map item_exprs (drop l.item-index l.items)) ≡ uses_of l.initial.out.items ++ flat_map uses (flat_map item_exprs l.items)
