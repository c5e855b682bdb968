-- The nets that are written for a cell (EDIF 2 0 0, net, joined).
use Rattle.std.specs.Prelude.{⊤, ◌≡◌, ◌≤◌, ◌^◌, ◌++◌, ℕ, List, Option, Some, None, map, nat_abs}
use Rattle.std.specs.List.{AllByRecursion}
use Rattle.nl_base.specs.Ranges.{Bounds, index_at}
use Rattle.net_hier.specs.declared.cells.HCell.{HCell}
use Rattle.net_hier.specs.declared.nodes.Node.{Node}
use Rattle.net_live.specs.Last.{last_of}
use Rattle.net_live.specs.Live.{class_props}
use Rattle.edif_values.specs.Names.{original}
use Rattle.edif_values.specs.Values.{IsNet}
use Rattle.edif_values.specs.declared.net.Net.{Net}
use Rattle.edif_values.specs.declared.view.ContentsItem.{ContentsItem}
use Rattle.edif_values.specs.declared.view.ContentsItem.TheVariants as contents_items
use Rattle.edif_design.specs.Design.{net_value}
use Rattle.edif_written.specs.Naming.{name_for}
use Rattle.edif_plans.specs.NetNames.{HasNoSpareText, name_of_class}
use Rattle.edif_plans.specs.References.{CellPlan, refs_for}
use Rattle.edif_plans.specs.Sound.{IsSoundNet, IsSoundPort}

-- the names of nets that are made of those of the cell's nets and ports can be written
pub record HaveSoundNets (cell : HCell) : Type 0 where
  pub ports : AllByRecursion IsSoundPort cell.ports
  pub nets : AllByRecursion IsSoundNet cell.nets

-- the index of a bit is one of 32 bits
abbrev pub HasFewDigits : Option Bounds → ℕ → Type 0
HasFewDigits None bit = ⊤
HasFewDigits (Some range) bit = nat_abs (index_at range bit) ≤ 2 ^ 31

-- the net of the class of these nodes under this identifier: it has the name of the class, joins what the nodes stand for and has the last value of each property of their nets
pub record IsNetOf (cell_plan : CellPlan) (ident : List ℕ) (nodes : List Node) (net : Net) : Type 0 where
  pub name : net.name ≡ name_for ident (name_of_class cell_plan.cell.nets cell_plan.cell.ports nodes)
  pub joined : net.joined ≡ refs_for cell_plan nodes
  pub props : (net_value net).props ≡ last_of (class_props cell_plan.cell.nets nodes)
  pub sound : HaveSoundNets cell_plan.cell → IsNet net

-- the nets of these classes under these identifiers, one for each, in order
pub record AreNetsOf (cell_plan : CellPlan) (idents : List (List ℕ)) (classes : List (List Node)) (nets : List Net) : Type 0 where
  pub under : map (λ net. net.name.ident) nets ≡ idents
  pub names : map (λ net. original net.name) nets ≡ map (name_of_class cell_plan.cell.nets cell_plan.cell.ports) classes
  pub no_spare_text : AllByRecursion (λ net. HasNoSpareText net.name) nets
  pub joined : map (λ net. net.joined) nets ≡ map (refs_for cell_plan) classes
  pub props : map (λ net. (net_value net).props) nets ≡ map (λ nodes. last_of (class_props cell_plan.cell.nets nodes)) classes
  pub sound : HaveSoundNets cell_plan.cell → AllByRecursion IsNet nets

-- the parts of contents are these first ones and then nets, of which this holds
pub record HaveNets (first : List ContentsItem) (Holds : List Net → Type 0) (items : List ContentsItem) : Type 0 where
  pub nets : List Net
  pub are_behind : items ≡ first ++ map contents_items.Net nets
  pub hold : Holds nets
