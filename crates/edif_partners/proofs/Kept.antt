-- What is made of a cell has the same local connection and the same properties of nets.
use Rattle.std.proofs.Common.{◌≡◌, ℕ, Bool, true, List, Option, Some, map, sym, ap, ◌∙◌, subst}
use Rattle.std.specs.Prelude.{◌↔◌, option_map, slice_get}
use Rattle.std.specs.List.{flat_map}
use Rattle.std.proofs.lemmas.Option.{slice_get-map}
use Rattle.nl_base.specs.declared.value.PropValue.{PropValue}
use Rattle.edif_values.specs.declared.name.NameDef.{NameDef}
use Rattle.edif_values.specs.declared.property.Property.{Property}
use Rattle.edif_values.specs.declared.cell.Cell.{Cell}
use Rattle.edif_values.specs.declared.instance.Instance.{Instance}
use Rattle.edif_values.specs.declared.net.Net.{Net}
use Rattle.edif_values.specs.declared.port.Port.{Port}
use Rattle.net_bits.specs.Classes.{AreClasses, ClassTable, members_of}
use Rattle.net_hier.specs.Cells.{IsBitOrConstant, IsLocallyConnected}
use Rattle.net_hier.specs.Facts.{HasNetValue, SameValues}
use Rattle.net_hier.specs.SameCells.{stand_in}
use Rattle.net_hier.specs.Valid.{IsGoodCell}
use Rattle.net_hier.specs.declared.cells.HCell.{HCell}
use Rattle.net_hier.specs.declared.cells.HNet.{HNet}
use Rattle.net_hier.specs.declared.cells.HProp.{HProp}
use Rattle.net_hier.specs.declared.nodes.Node.{Node}
use Rattle.net_live.specs.Last.{last_of}
use Rattle.net_live.specs.Live.{class_props, ends_of, needs_constant}
use Rattle.net_live.proofs.LastLaws.{last_values_kept}
use Rattle.net_live.proofs.PartnerLaws.{connection_kept, values_kept}
use Rattle.net_stars.specs.Nets.{stars}
use Rattle.net_stars.specs.StandIns.{StandsFor}
use Rattle.net_stars.specs.Stars.{IsBit}
use Rattle.net_stars.proofs.StandIns.{stand_ins}
use Rattle.edif_meanings.specs.Apart.{AreApart}
use Rattle.edif_design.specs.Design.{cell_value, net_joins, net_value}
use Rattle.edif_design.specs.Parts.{numbered}
use Rattle.edif_design.specs.References.{LinkedCell, linked_cell, place_in}
use Rattle.edif_written.specs.Written.{cell_of, file_of}
use Rattle.edif_written.proofs.Parts.{nets_are}
use Rattle.edif_written.specs.Naming.{name_for}
use Rattle.edif_plans.specs.Made.{AreAddedTo, AreInstancesFor, AreNetsFor, ArePortsFor, IsMadeCell}
use Rattle.edif_plans.specs.declared.head.Head.{Head}
use Rattle.edif_plans.specs.declared.plan.Plan.{Plan}
use Rattle.edif_plans.specs.References.{CellPlan}
use Rattle.edif_partners.specs.Placed.{ArePlaced, ConstantStands, added_number}
use Rattle.edif_partners.proofs.AddedMeans.{added_after}
use Rattle.edif_partners.proofs.Free.{shown_at}
use Rattle.edif_partners.proofs.NetMeans.{made_joins}

module _ (name design_name : NameDef) (cells : List Cell) (top : List ℕ) (cell_plan : CellPlan) (placed : ArePlaced cell_plan.cells cell_plan.plan cells) (cell_name : NameDef) (ps : List Port) (is : List Instance) (ns : List Net) (properties : List Property)
    (are_ports : ArePortsFor cell_plan.head cell_plan.cell ps) (are_instances : AreInstancesFor cell_plan.plan cell_plan.cell.instances cell_plan.instances is) (ports_apart : AreApart cell_plan.head.ports) (idents_apart : AreApart cell_plan.instances.idents)
    (classes : ClassTable) (are_added : AreAddedTo cell_plan.cell.instances classes cell_plan.instances) (constants : (value : Bool) → needs_constant classes value ≡ true → ConstantStands cell_plan.plan cells value)
    (are : AreClasses cell_plan.cell classes) (good : IsGoodCell cell_plan.cells cell_plan.cell) (live : List ℕ) (nets : AreNetsFor cell_plan classes live ns) (numbers : List ℕ) where
  abbrev linked : LinkedCell
  linked = linked_cell (file_of name design_name cells top) (place_in 0 (cell_of cell_name ps is ns properties))

  abbrev partner : HCell
  partner = cell_value numbers linked

  abbrev added : Bool → Option ℕ
  added = added_number cell_plan.instances classes

  partner_joins : partner.joins ≡ stars (map (map (stand_in added)) (map (ends_of classes) live))
  unfolding cell_value
  partner_joins = ap (λ l. flat_map (net_joins linked) (numbered l)) (nets_are cell_name ps is ns properties)
      ∙ made_joins name design_name cells top cell_plan placed cell_name ps is ns properties are_ports are_instances ports_apart idents_apart classes are_added constants are good live nets

  partner_nets : partner.nets ≡ map net_value ns
  unfolding cell_value
  partner_nets = ap (map net_value) (nets_are cell_name ps is ns properties)

  net_kept : (place class : ℕ) → slice_get live place ≡ Some class → (net : HNet) × (slice_get partner.nets place ≡ Some net) × SameValues (class_props cell_plan.cell.nets (members_of classes class)) net.props
  net_kept place class there =
      let at : slice_get (map (λ (n : Net). (net_value n).props) ns) place ≡ Some (last_of (class_props cell_plan.cell.nets (members_of classes class))) =
      ap (λ l. slice_get l place) nets.props ∙ (slice_get-map (λ c. last_of (class_props cell_plan.cell.nets (members_of classes c))) live place ∙ ap (option_map (λ c. last_of (class_props cell_plan.cell.nets (members_of classes c)))) there) in
      let found = shown_at (λ (n : Net). (net_value n).props) ns place (last_of (class_props cell_plan.cell.nets (members_of classes class))) at in (
        net_value found.item,
        ap (λ l. slice_get l place) partner_nets ∙ (slice_get-map net_value ns place ∙ ap (option_map net_value) found.is_there),
        subst (λ (props : List HProp). SameValues (class_props cell_plan.cell.nets (members_of classes class)) props) (sym found.shows) (last_values_kept (class_props cell_plan.cell.nets (members_of classes class))),
      )

  stands : StandsFor cell_plan.cells cell_plan.cell (stand_in added)
  stands = stand_ins cell_plan.cells cell_plan.cell added (added_after cell_plan classes are_added)

  -- the same connection among what stands for port bits, pin bits and constants
  pub same_connection : (x y : Node) → IsBitOrConstant cell_plan.cells cell_plan.cell x → IsBitOrConstant cell_plan.cells cell_plan.cell y → IsLocallyConnected cell_plan.cell x y ↔ IsLocallyConnected partner (stand_in added x) (stand_in added y)
  same_connection = connection_kept cell_plan.cells cell_plan.cell classes are good.joins_in_range live nets.are_live partner (stand_in added) stands partner_joins net_kept

  -- and the same properties of nets at each bit
  pub same_values : (x : Node) → IsBit cell_plan.cells cell_plan.cell x → (prop : List ℕ) (value : PropValue) → HasNetValue cell_plan.cell x prop value ↔ HasNetValue partner (stand_in added x) prop value
  same_values = values_kept cell_plan.cells cell_plan.cell classes are good.joins_in_range live nets.are_live partner (stand_in added) stands partner_joins net_kept

-- the same of what is made of a cell, whichever ports, instances and nets it has
module _ (name design_name : NameDef) (cells : List Cell) (top : List ℕ) (design_cells : List HCell) (plan : Plan) (placed : ArePlaced design_cells plan cells) (head : Head) (cell : HCell) (props : List HProp) (classes : ClassTable) (made : Cell)
    (is : IsMadeCell design_cells plan head cell props classes made) (ports_apart : AreApart head.ports) (are : AreClasses cell classes) (good : IsGoodCell design_cells cell) (constants : (value : Bool) → needs_constant classes value ≡ true → ConstantStands plan cells value) (numbers : List ℕ) where
  abbrev cell_plan_of_cell : CellPlan
  cell_plan_of_cell = record { cells = design_cells; plan = plan; cell = cell; head = head; instances = is.instances }

  pub made_connection : (x y : Node) → IsBitOrConstant design_cells cell x → IsBitOrConstant design_cells cell y
      → IsLocallyConnected cell x y ↔ IsLocallyConnected (cell_value numbers (linked_cell (file_of name design_name cells top) (place_in 0 made))) (stand_in (added_number is.instances classes) x) (stand_in (added_number is.instances classes) y)
  made_connection x y hx hy = subst (λ (d : Cell). IsLocallyConnected cell x y ↔ IsLocallyConnected (cell_value numbers (linked_cell (file_of name design_name cells top) (place_in 0 d))) (stand_in (added_number is.instances classes) x) (stand_in (added_number is.instances classes) y)) (sym is.is_cell)
      (same_connection name design_name cells top cell_plan_of_cell placed (name_for head.cell cell.name) is.ports is.made_instances is.nets is.properties is.are_ports is.are_instances ports_apart is.are_added.idents.apart classes is.are_added constants are good is.live is.are_nets numbers x y hx hy)

  pub made_values : (x : Node) → IsBit design_cells cell x → (prop : List ℕ) (value : PropValue)
      → HasNetValue cell x prop value ↔ HasNetValue (cell_value numbers (linked_cell (file_of name design_name cells top) (place_in 0 made))) (stand_in (added_number is.instances classes) x) prop value
  made_values x hx prop value = subst (λ (d : Cell). HasNetValue cell x prop value ↔ HasNetValue (cell_value numbers (linked_cell (file_of name design_name cells top) (place_in 0 d))) (stand_in (added_number is.instances classes) x) prop value) (sym is.is_cell)
      (same_values name design_name cells top cell_plan_of_cell placed (name_for head.cell cell.name) is.ports is.made_instances is.nets is.properties is.are_ports is.are_instances ports_apart is.are_added.idents.apart classes is.are_added constants are good is.live is.are_nets numbers x hx prop value)
