use Rattle.std.proofs.Common.{◌≡◌, ◌≤◌, ◌+◌, ◌++◌, flat_map, length, reverse}
use Rattle.std.specs.List.{AllByRecursion}
use Rattle.vlog_design.specs.Design.{joins_from}
use Rattle.vlog_design.specs.Names.{instance_statement}
use Rattle.vlog_ties.specs.Ties.{modules_in}
use Rattle.vlog_values.specs.Sizes.{item_size, list_size}
use Rattle.vlog_values.specs.Values.{IsItem}
use Rattle.vlog_cells.specs.Instances.{instances_by}
use Rattle.vlog_cells.proofs.pins.pins_made.Given as goal

abbrev pub invariant-loop-item : goal.invariant-loop-item
invariant-loop-item l = record {
  valid : AllByRecursion IsItem (reverse l.items.items);
  small : l.number + list_size item_size (reverse l.items.items) ≤ 268435456;
  joined : l.pins.joins ++ joins_from (modules_in l.scopes) l.table l.number (reverse l.items.items) ≡ joins_from (modules_in l.scopes) l.table 0 (reverse l.initial.items.items);
  made : l.pins.instances ++ flat_map (instances_by l.names l.found) (flat_map instance_statement (reverse l.items.items)) ≡ flat_map (instances_by l.names l.found) (flat_map instance_statement (reverse l.initial.items.items));
}

abbrev pub decreases-loop-item : goal.decreases-loop-item
decreases-loop-item l = length l.items.items
