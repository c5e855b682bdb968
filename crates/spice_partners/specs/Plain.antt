-- Plain connection: what connects the nodes of a design but the constant cells.
use Rattle.std.specs.Prelude.{ℕ, ◌⊎◌, ◌∷◌}
use Rattle.net_graph.specs.Walks.{IsLinked}
use Rattle.net_hier.specs.Cells.{HasLocalStep, IsPinBit}
use Rattle.net_hier.specs.Design.{Design}
use Rattle.net_hier.specs.Flat.{FlatNode, At, taken_at}
use Rattle.net_hier.specs.Paths.{Path, CellAt}
use Rattle.net_hier.specs.declared.cells.HCell.{HCell}
use Rattle.net_hier.specs.declared.nodes.Node.{Node}
use Rattle.net_hier.specs.declared.nodes.Node.TheVariants.{Port, Pin}

-- a flat step that is none between the pin of a constant cell and its constant, in one direction
pub data PlainLink (design : Design) : FlatNode → FlatNode → Type 0 where
  -- between the two nodes of a join
  plain_join : {path : Path} {cell : HCell} {x y : Node} → CellAt design path cell → HasLocalStep cell x y → PlainLink design (taken_at path x) (taken_at path y)
  -- from a pin bit to the same port bit one level down
  plain_pin : {path : Path} {cell : HCell} {instance port bit : ℕ} → CellAt design path cell → (pin : IsPinBit design.cells cell instance port bit) →
      PlainLink design (At path (Pin instance port bit)) (At (pin.the_instance.name ∷ path) (Port port bit))

-- such a step between the two
abbrev pub PlainStep : Design → FlatNode → FlatNode → Type 0
PlainStep design x y = PlainLink design x y ⊎ PlainLink design y x

-- a list of flat nodes leads from one to the other by such steps
abbrev pub IsPlainlyConnected : Design → FlatNode → FlatNode → Type 0
IsPlainlyConnected design = IsLinked (PlainStep design)
