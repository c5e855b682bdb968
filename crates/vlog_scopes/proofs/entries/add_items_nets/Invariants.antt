use Rattle.std.proofs.Common.{◌≡◌, ◌≤◌, ◌+◌, ◌*◌, drop, flat_map, length}
use Rattle.vlog_scopes.specs.Filled.{item_nets, items_added}
use Rattle.vlog_scopes.proofs.entries.add_items_nets.Given as goal

abbrev pub invariant-loop-item : goal.invariant-loop-item
invariant-loop-item l = record {
  added : items_added (l.out, l.next) (drop l.item-index l.items) ≡ items_added (l.initial.out, 0) l.items;
  bound : l.next + length (flat_map item_nets (drop l.item-index l.items)) * 4294967296 ≤ 1152921504606846976;
}
