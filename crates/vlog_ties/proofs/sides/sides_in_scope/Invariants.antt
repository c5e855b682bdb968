use Rattle.std.proofs.Common.{◌≡◌, ◌+◌, ◌≤◌, drop, flat_map, sum_by, take}
use Rattle.std.specs.List.{list_any}
use Rattle.vlog_design.specs.Design.{instance_count}
use Rattle.vlog_design.specs.Names.{item_exprs, uses}
use Rattle.vlog_rules.specs.WrongUses.{is_wrong}
use Rattle.vlog_ties.specs.Sides.{AreTieSides}
use Rattle.vlog_ties.specs.Ties.{modules_in, ties_from}
use Rattle.vlog_ties.proofs.sides.sides_in_scope.Given as goal

abbrev pub invariant-loop-item : goal.invariant-loop-item
invariant-loop-item l = record {
  few : l.number + sum_by instance_count (drop l.item-index l.item-items) ≤ 268435456;
  counted : l.number ≡ sum_by instance_count (take l.item-index l.item-items);
  sides : AreTieSides l.scope.module.now l.scope.table (ties_from (modules_in l.scopes) 0 (take l.item-index l.item-items)) l.sides;
  wrong : l.sides.wrong ≡ list_any (is_wrong l.scope.table) (flat_map uses (flat_map item_exprs (take l.item-index l.item-items)));
}
