use Rattle.std.proofs.Common.{◌≡◌, ◌++◌, drop}
use Rattle.std.specs.List.{AllByRecursion, filter_map}
use Rattle.edif_values.specs.Values.{IsPortRef}
use Rattle.edif_plans.specs.References.{ref_for, refs_for}
use Rattle.edif_making.specs.CellPlans.{cell_plan_of}
use Rattle.edif_making.proofs.refs.refs_of.Given as goal

abbrev pub invariant-loop-node : goal.invariant-loop-node
invariant-loop-node l = record {
  made : l.refs.items ++ filter_map (ref_for (cell_plan_of l.scope)) (drop l.node-index l.nodes) ≡ refs_for (cell_plan_of l.scope) l.nodes;
  sound : AllByRecursion IsPortRef l.refs.items;
}
