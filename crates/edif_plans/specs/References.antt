-- The references of the nets that are written (EDIF 2 0 0, portRef, member, instanceRef).
use Rattle.std.specs.Prelude.{⊤, ◌≡◌, ℕ, ◌+◌, ◌-◌, ◌<◌, Bool, true, false, List, [], Option, Some, None, ℤ, pos, length, get_or, slice_get}
use Rattle.std.specs.List.{filter_map}
use Rattle.std.specs.Option.{option_and_then, option_map_or}
use Rattle.nl_base.specs.Ranges.{Bounds}
use Rattle.edif_values.specs.declared.net.PortRef.{PortRef}
use Rattle.net_hier.specs.declared.cells.HCell.{HCell}
use Rattle.net_hier.specs.declared.cells.HInst.{HInst}
use Rattle.net_hier.specs.declared.cells.HPort.{HPort}
use Rattle.net_hier.specs.declared.nodes.Node.{Node}
use Rattle.net_hier.specs.declared.nodes.Node.TheVariants.{Port, Pin, Net, Zero, One}
use Rattle.net_hier.specs.Cells.{IsPinBit, IsPortBit}
use Rattle.net_hier.specs.Valid.{Each}
use Rattle.edif_plans.specs.Plans.{FitsCells, HasConstant, HasPorts, constant_head, head_of}
use Rattle.edif_plans.specs.declared.added.Instances.{Instances}
use Rattle.edif_plans.specs.declared.head.Head.{Head}
use Rattle.edif_plans.specs.declared.plan.Plan.{Plan}

-- the member that a reference to a bit has: none for a scalar
abbrev pub member_for : Option Bounds → ℕ → Option ℤ
member_for None bit = None
member_for (Some range) bit = Some (pos bit)

-- the range of the port of this number
abbrev pub range_at : List HPort → ℕ → Option Bounds
range_at ports port = option_and_then (λ found. found.range) (slice_get ports port)

-- the name of the cell of this number
abbrev pub name_at : List HCell → ℕ → List ℕ
name_at cells number = option_map_or (λ cell. cell.name) (slice_get cells number) []

-- the ports of the cell of this number
abbrev pub ports_at : List HCell → ℕ → List HPort
ports_at cells number = option_map_or (λ cell. cell.ports) (slice_get cells number) []

-- the number of the cell of which this instance is
abbrev pub below_at : List HInst → ℕ → ℕ
below_at instances instance = option_map_or (λ one. one.cell) (slice_get instances instance) 0

-- the place of the instance that is added for a constant among those of a cell: that of the zero is the first that is added, that of the one the last
abbrev pub added_place : Instances → Bool → ℕ
added_place instances false = length instances.idents - length instances.added
added_place instances true = length instances.idents - 1

-- a cell that is written: the design's cells, the plan of the file, the cell, and the identifiers of its ports and instances
pub record CellPlan : Type 0 where
  pub cells : List HCell
  pub plan : Plan
  pub cell : HCell
  pub head : Head
  pub instances : Instances

-- the reference to a bit of a port of the cell itself
abbrev pub own_ref_for : CellPlan → ℕ → ℕ → PortRef
own_ref_for cell_plan port bit = record { port = get_or cell_plan.head.ports port []; member = member_for (range_at cell_plan.cell.ports port) bit; instance = None }

-- that to a bit of a port of an instance
abbrev pub pin_ref_for : CellPlan → ℕ → ℕ → ℕ → PortRef
pin_ref_for cell_plan instance port bit =
    let below = below_at cell_plan.cell.instances instance in
    record { port = get_or (head_of cell_plan.plan below).ports port []; member = member_for (range_at (ports_at cell_plan.cells below) port) bit; instance = Some (get_or cell_plan.instances.idents instance []) }

-- that to the pin of the instance that is added for a constant
abbrev pub constant_ref_for : CellPlan → Bool → PortRef
constant_ref_for cell_plan value =
    record { port = get_or (constant_head cell_plan.plan value).ports 0 []; member = None; instance = Some (get_or cell_plan.instances.idents (added_place cell_plan.instances value) []) }

-- the reference to a node; a net has none
unfoldable pub ref_for : CellPlan → Node → Option PortRef
ref_for cell_plan (Port port bit) = Some (own_ref_for cell_plan port bit)
ref_for cell_plan (Pin instance port bit) = Some (pin_ref_for cell_plan instance port bit)
ref_for cell_plan (Net net) = None
ref_for cell_plan Zero = Some (constant_ref_for cell_plan false)
ref_for cell_plan One = Some (constant_ref_for cell_plan true)

-- the references to nodes, in order
abbrev pub refs_for : CellPlan → List Node → List PortRef
refs_for cell_plan = filter_map (ref_for cell_plan)

-- identifiers are there for all that a reference can name
pub record FitsCellPlan (cell_plan : CellPlan) : Type 0 where
  pub plan_fits : FitsCells cell_plan.cells cell_plan.plan
  pub ports_fit : HasPorts cell_plan.head cell_plan.cell
  pub idents_fit : length cell_plan.instances.idents ≡ length cell_plan.cell.instances + length cell_plan.instances.added
  pub in_range : Each (λ instance. instance.cell < length cell_plan.cells) cell_plan.cell.instances

-- an instance is added for the constant, whose cell has a port
pub record HasPin (cell_plan : CellPlan) (value : Bool) : Type 0 where
  pub is_added : 0 < length cell_plan.instances.added
  pub constant : HasConstant cell_plan.plan value

-- what the node is, or what stands for it, is there
abbrev pub CanRefer : CellPlan → Node → Type 0
CanRefer cell_plan (Port port bit) = IsPortBit cell_plan.cell port bit
CanRefer cell_plan (Pin instance port bit) = IsPinBit cell_plan.cells cell_plan.cell instance port bit
CanRefer cell_plan (Net net) = ⊤
CanRefer cell_plan Zero = HasPin cell_plan false
CanRefer cell_plan One = HasPin cell_plan true
