use Rattle.std.proofs.Common.{◌≡◌, ◌++◌, drop, ℕ, List, flat_map}
use Rattle.vlog_cells.specs.Ports.{said_in_item, said_of}
use Rattle.vlog_cells.proofs.mentions.mention_items.Given as goal

abbrev pub invariant-loop-item : goal.invariant-loop-item
invariant-loop-item l = (key : List ℕ) → said_of l.found key ++ flat_map (said_in_item l.table key) (drop l.item-index l.items) ≡ said_of l.initial.found key ++ flat_map (said_in_item l.table key) l.items
