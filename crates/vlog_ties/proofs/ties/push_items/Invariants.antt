use Rattle.std.proofs.Common.{◌≡◌, ◌+◌, ◌≤◌, ◌++◌, drop, sum_by}
use Rattle.vlog_design.specs.Design.{instance_count}
use Rattle.vlog_ties.specs.Ties.{all_tied, modules_in, ties_from}
use Rattle.vlog_ties.proofs.ties.push_items.Given as goal

abbrev pub invariant-loop-item : goal.invariant-loop-item
invariant-loop-item l = record {
  few : l.number + sum_by instance_count (drop l.item-index l.items) ≤ 268435456;
  added : all_tied l.out.items ++ ties_from (modules_in l.scopes) l.number (drop l.item-index l.items) ≡ all_tied l.initial.out.items ++ ties_from (modules_in l.scopes) 0 l.items;
}
