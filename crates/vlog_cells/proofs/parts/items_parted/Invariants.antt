use Rattle.std.proofs.Common.{◌≡◌, ◌++◌, flat_map, length, reverse}
use Rattle.vlog_cells.specs.Parts.{declared_item, tying_item}
use Rattle.vlog_cells.proofs.parts.items_parted.Given as goal

abbrev pub invariant-loop-item : goal.invariant-loop-item
invariant-loop-item l = record {
  declared : flat_map declared_item l.left.items ++ reverse l.declared.items ≡ flat_map declared_item l.initial.left.items;
  tying : flat_map tying_item l.left.items ++ reverse l.tying.items ≡ flat_map tying_item l.initial.left.items;
}

abbrev pub decreases-loop-item : goal.decreases-loop-item
decreases-loop-item l = length l.left.items
