-- A cell that is written, with what its references name.
use Rattle.std.specs.Prelude.{ℕ, [], map}
use Rattle.net_hier.specs.declared.cells.HInst.{HInst}
use Rattle.edif_plans.specs.References.{CellPlan}
use Rattle.edif_making.specs.declared.refs.Scope.{Scope}

-- an instance of the cell of this number, without a name
abbrev pub nameless : ℕ → HInst
nameless number = record { name = []; cell = number; props = [] }

-- what stands behind the borrows of a scope
abbrev pub cell_plan_of : Scope → CellPlan
cell_plan_of scope = record {
  cells = scope.cells.now;
  plan = scope.plan.now;
  cell = record { name = scope.shown.now.name; ports = scope.shown.now.ports; instances = map nameless scope.belows.now; nets = scope.inside.now.nets; joins = []; props = [] };
  head = scope.head.now;
  instances = scope.instances.now;
}
