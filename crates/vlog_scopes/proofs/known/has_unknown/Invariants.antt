use Rattle.std.proofs.Common.{◌≡◌, drop, flat_map}
use Rattle.std.specs.List.{list_any}
use Rattle.vlog_design.specs.Names.{item_targets, uses}
use Rattle.vlog_scopes.specs.Implicit.{is_unknown}
use Rattle.vlog_scopes.proofs.known.has_unknown.Given as goal

abbrev pub invariant-loop-item : goal.invariant-loop-item
invariant-loop-item l =
    list_any (is_unknown l.table) (flat_map uses (flat_map item_targets (drop l.item-index l.items))) ≡ list_any (is_unknown l.table) (flat_map uses (flat_map item_targets l.items))
