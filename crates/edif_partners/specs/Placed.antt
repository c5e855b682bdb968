-- Where the cells of a design stand in a file that is made of it.
use Rattle.std.specs.Prelude.{◌≡◌, ℕ, Bool, true, cond, List, map, slice_get, Option, None, Some}
use Rattle.net_bits.specs.Classes.{ClassTable}
use Rattle.net_live.specs.Live.{needs_constant}
use Rattle.edif_plans.specs.References.{added_place}
use Rattle.edif_plans.specs.declared.added.Instances.{Instances}
use Rattle.edif_values.specs.declared.cell.Cell.{Cell}
use Rattle.edif_values.specs.declared.port.Port.{Port}
use Rattle.net_hier.specs.Design.{IsCell}
use Rattle.net_hier.specs.declared.cells.HCell.{HCell}
use Rattle.edif_meanings.specs.Apart.{AreApart}
use Rattle.edif_design.specs.CellRules.{means_view, port_ident, size_of}
use Rattle.edif_design.specs.Parts.{ports}
use Rattle.edif_written.specs.Written.{netlist}
use Rattle.edif_plans.specs.Summaries.{summary_for, summary_of}
use Rattle.edif_plans.specs.Plans.{constant_head, constant_number, head_of, number_of}
use Rattle.edif_plans.specs.declared.head.Head.{Head}
use Rattle.edif_plans.specs.declared.plan.Plan.{Plan}

-- the head has the identifiers of the cell and of its ports
pub record IsHeadFor (head : Head) (made : Cell) : Type 0 where
  pub cell : head.cell ≡ made.name.ident
  pub ports_named : head.ports ≡ map port_ident (ports made)

-- the cell of this number in the design stands where the plan says, with its ports
pub record StandsAt (plan : Plan) (cells : List Cell) (number : ℕ) (cell : HCell) : Type 0 where
  pub made : Cell
  pub is_there : slice_get cells (number_of plan number) ≡ Some made
  pub head : IsHeadFor (head_of plan number) made
  pub summaries : map summary_of (ports made) ≡ map summary_for cell.ports

-- the cell of a constant stands where the plan says; its first port is a scalar
pub record ConstantStands (plan : Plan) (cells : List Cell) (value : Bool) : Type 0 where
  pub made : Cell
  pub is_there : slice_get cells (constant_number plan value) ≡ Some made
  pub head : IsHeadFor (constant_head plan value) made
  pub port : Port
  pub has_port : slice_get (ports made) 0 ≡ Some port
  pub is_scalar : size_of port.name ≡ None

-- the cells of a file have identifiers that differ up to case, and so have the ports of each; each has the view; and the cells of the design stand where the plan says
pub record ArePlaced (design_cells : List HCell) (plan : Plan) (cells : List Cell) : Type 0 where
  pub apart : AreApart (map (λ cell. cell.name.ident) cells)
  pub viewed : (i : ℕ) (cell : Cell) → slice_get cells i ≡ Some cell → means_view cell netlist ≡ true
  pub ports_apart : (i : ℕ) (cell : Cell) → slice_get cells i ≡ Some cell → AreApart (map port_ident (ports cell))
  pub stand : (number : ℕ) (cell : HCell) → IsCell design_cells number cell → StandsAt plan cells number cell

-- the number of the instance that is added to a cell with these classes for a constant, where it needs one
abbrev pub added_number : Instances → ClassTable → Bool → Option ℕ
added_number instances classes value = cond (needs_constant classes value) (Some (added_place instances value)) None
