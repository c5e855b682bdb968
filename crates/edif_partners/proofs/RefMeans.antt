-- What the references of the nets that are made of the classes of a cell mean.
use Rattle.std.proofs.Common.{arith, ◌≡◌, ℕ, ◌<◌, List, [], Option, Some, None, get_or, map, refl, sym, ap, ◌∙◌, subst}
use Rattle.std.specs.Prelude.{option_map, slice_get}
use Rattle.std.specs.Option.{option_and_then, option_map_or}
use Rattle.std.proofs.lemmas.Option.{slice_get-map}
use Rattle.nl_base.specs.Ranges.{Bounds, range_bits}
use Rattle.edif_values.specs.declared.name.NameDef.{NameDef}
use Rattle.edif_values.specs.declared.property.Property.{Property}
use Rattle.edif_values.specs.declared.cell.Cell.{Cell}
use Rattle.edif_values.specs.declared.file.EdifFile.{EdifFile}
use Rattle.edif_values.specs.declared.instance.Instance.{Instance}
use Rattle.edif_values.specs.declared.net.Net.{Net}
use Rattle.edif_values.specs.declared.net.PortRef.{PortRef}
use Rattle.edif_values.specs.declared.port.Port.{Port}
use Rattle.net_hier.specs.Cells.{IsPinBit, IsPortBit, width_of}
use Rattle.net_hier.specs.declared.cells.HCell.{HCell}
use Rattle.net_hier.specs.declared.cells.HInst.{HInst}
use Rattle.net_hier.specs.declared.cells.HPort.{HPort}
use Rattle.net_hier.specs.declared.nodes.Node.TheVariants as nodes
use Rattle.edif_meanings.specs.Apart.{AreApart}
use Rattle.edif_design.specs.CellRules.{bit_meant, port_ident, size_of}
use Rattle.edif_design.specs.Parts.{instances, ports}
use Rattle.edif_design.specs.References.{CellPlace, LinkedCell, cell_meant, file_cells, link_meant, linked_cell, number_meant, place_in, with_number}
use Rattle.edif_written.specs.Written.{cell_of, file_of, work}
use Rattle.edif_written.proofs.Cells.{all_cells_are, link_means}
use Rattle.edif_written.proofs.Parts.{instances_are, ports_are}
use Rattle.edif_written.proofs.RefLaws.{IsInstanceOf, IsMember, IsPortOf, is_member, own_bit, pin_bit}
use Rattle.edif_plans.specs.Summaries.{InstanceSummary, PortSummary, added_summary, summary_for, summary_of, instance_summary, instance_ident, own_summary, size_for}
use Rattle.edif_plans.specs.Made.{AreInstancesFor, ArePortsFor}
use Rattle.edif_plans.specs.Plans.{head_of, number_of}
use Rattle.edif_plans.specs.References.{CellPlan, below_at, member_for, own_ref_for, pin_ref_for, ports_at, range_at}
use Rattle.edif_plans.proofs.Lists.{at_get}
use Rattle.edif_partners.specs.Placed.{ArePlaced}
use Rattle.edif_partners.proofs.Free.{get_left, shown_at}

-- the member that is written names the bit
member_is : (range : Option Bounds) (bit : ℕ) → bit < width_of range → IsMember (size_for range) (member_for range bit) bit
member_is None bit inside = omega (arith, inside)
member_is (Some range) bit inside = is_member (range_bits range) bit inside

-- a reference with the identifier of a port names that port
found_port : (made : List Port) (hports : List HPort) (idents : List (List ℕ)) → idents ≡ map port_ident made → map summary_of made ≡ map summary_for hports → (port bit : ℕ) (hport : HPort) → slice_get hports port ≡ Some hport → bit < width_of hport.range
    → (ref : PortRef) → ref.port ≡ get_or idents port [] → ref.member ≡ member_for (range_at hports port) bit → IsPortOf made ref port bit
found_port made hports idents named summaries port bit hport there inside ref is_port is_member_of =
    let at : slice_get (map summary_of made) port ≡ Some (summary_for hport) = ap (λ l. slice_get l port) summaries ∙ (slice_get-map summary_for hports port ∙ ap (option_map summary_for) there) in
    let found = shown_at summary_of made port (summary_for hport) at in
    let ident : slice_get idents port ≡ Some (port_ident found.item) = ap (λ l. slice_get l port) named ∙ (slice_get-map port_ident made port ∙ ap (option_map port_ident) found.is_there) in
    let size : size_of found.item.name ≡ size_for hport.range = ap (λ (summary : PortSummary). summary.size) found.shows in
    let range : range_at hports port ≡ hport.range = ap (option_and_then (λ (p : HPort). p.range)) there in
    record {
      the_port = found.item;
      is_there = found.is_there;
      is_named = is_port ∙ at_get idents port (port_ident found.item) [] ident;
      is_bit = subst (λ s. IsMember s ref.member bit) (sym size) (subst (λ m. IsMember (size_for hport.range) m bit) (sym (is_member_of ∙ ap (λ r. member_for r bit) range)) (member_is hport.range bit inside));
    }

module _ (name design_name : NameDef) (cells : List Cell) (top : List ℕ) (cell_plan : CellPlan) (placed : ArePlaced cell_plan.cells cell_plan.plan cells) (cell_name : NameDef) (ps : List Port) (is : List Instance) (ns : List Net) (properties : List Property)
    (are_ports : ArePortsFor cell_plan.head cell_plan.cell ps) (are_instances : AreInstancesFor cell_plan.plan cell_plan.cell.instances cell_plan.instances is) (ports_apart : AreApart cell_plan.head.ports) (idents_apart : AreApart cell_plan.instances.idents) where
  abbrev file : EdifFile
  file = file_of name design_name cells top

  abbrev made : Cell
  made = cell_of cell_name ps is ns properties

  abbrev linked : LinkedCell
  linked = linked_cell file (place_in 0 made)

  pub own_apart : AreApart (map port_ident (ports made))
  own_apart = subst (λ l. AreApart (map port_ident l)) (sym (ports_are cell_name ps is ns properties)) (subst AreApart (sym are_ports.idents) ports_apart)

  pub inner_apart : AreApart (map (λ (i : Instance). i.name.ident) (instances made))
  inner_apart = subst (λ l. AreApart (map (λ (i : Instance). i.name.ident) l)) (sym (instances_are cell_name ps is ns properties)) (subst AreApart (sym are_instances.idents) idents_apart)

  -- a reference to a port bit of the cell itself
  pub own_port : (port bit : ℕ) → IsPortBit cell_plan.cell port bit → IsPortOf (ports made) (own_ref_for cell_plan port bit) port bit
  own_port port bit h = subst (λ l. IsPortOf l (own_ref_for cell_plan port bit) port bit) (sym (ports_are cell_name ps is ns properties))
      (found_port ps cell_plan.cell.ports cell_plan.head.ports (sym are_ports.idents) are_ports.summaries port bit h.the_port h.is_there h.within (own_ref_for cell_plan port bit) refl refl)

  pub own_means : (port bit : ℕ) → IsPortBit cell_plan.cell port bit → bit_meant linked (own_ref_for cell_plan port bit) ≡ Some (nodes.Port port bit)
  own_means port bit h = own_bit linked (own_ref_for cell_plan port bit) port bit refl own_apart (own_port port bit h)

  cell_there : (number : ℕ) (inner : Cell) → slice_get cells number ≡ Some inner → slice_get (file_cells file) number ≡ Some inner
  cell_there number inner there =
      ap (λ l. slice_get (map (λ (place : CellPlace). place.cell) l) number) (all_cells_are name design_name cells top)
      ∙ (slice_get-map (λ (place : CellPlace). place.cell) (map (place_in 0) cells) number ∙ (ap (option_map (λ (place : CellPlace). place.cell)) (slice_get-map (place_in 0) cells number ∙ ap (option_map (place_in 0)) there)))

  -- the instance at a place is of the cell whose identifier it names
  pub link_below : (i : ℕ) (x : Instance) (number : ℕ) (inner : Cell) → slice_get is i ≡ Some x → slice_get cells number ≡ Some inner → x.library ≡ Some work → x.cell ≡ inner.name.ident → get_or linked.below i None ≡ Some (number, inner)
  link_below i x number inner here there library of_cell =
      let at : slice_get (instances made) i ≡ Some x = ap (λ l. slice_get l i) (instances_are cell_name ps is ns properties) ∙ here in
      let link : link_meant file 0 x.library x.cell ≡ Some (number, place_in 0 inner) = (λ j. link_meant file 0 (library j) (of_cell j)) ∙ link_means name design_name cells top 0 number inner there placed.apart in
      let meant : option_and_then (with_number (file_cells file)) (number_meant (cell_meant file 0 x)) ≡ Some (number, inner) =
      ap (λ o. option_and_then (with_number (file_cells file)) (number_meant o)) link ∙ ap (option_map (λ (c : Cell). (number, c))) (cell_there number inner there) in
      at_get linked.below i (Some (number, inner)) None
      (slice_get-map (option_and_then (with_number (file_cells file))) (map (λ (inst : Instance). number_meant (cell_meant file 0 inst)) (instances made)) i
      ∙ (ap (option_map (option_and_then (with_number (file_cells file)))) (slice_get-map (λ (inst : Instance). number_meant (cell_meant file 0 inst)) (instances made) i ∙ ap (option_map (λ (inst : Instance). number_meant (cell_meant file 0 inst))) at)
      ∙ ap Some meant))

  -- the instance and the port that a reference to a pin bit names
  pub record IsPinFound (instance port bit : ℕ) (ref : PortRef) : Type 0 where
    pub inner : Cell
    pub of_instance : IsInstanceOf linked ref instance inner
    pub inner_ports_apart : AreApart (map port_ident (ports inner))
    pub of_port : IsPortOf (ports inner) ref port bit

  pub pin_found : (instance port bit : ℕ) → IsPinBit cell_plan.cells cell_plan.cell instance port bit → IsPinFound instance port bit (pin_ref_for cell_plan instance port bit)
  pin_found i port bit h =
      let stands = placed.stand h.the_instance.cell h.below h.is_below in
      let at : slice_get (map instance_summary is) i ≡ Some (own_summary cell_plan.plan h.the_instance) =
      ap (λ l. slice_get l i) are_instances.summaries
      ∙ get_left (map (own_summary cell_plan.plan) cell_plan.cell.instances) (map (added_summary cell_plan.plan) cell_plan.instances.added) i (own_summary cell_plan.plan h.the_instance) (slice_get-map (own_summary cell_plan.plan) cell_plan.cell.instances i ∙ ap (option_map (own_summary cell_plan.plan)) h.is_there) in
      let found = shown_at instance_summary is i (own_summary cell_plan.plan h.the_instance) at in
      let ident : slice_get cell_plan.instances.idents i ≡ Some found.item.name.ident = ap (λ l. slice_get l i) (sym are_instances.idents) ∙ (slice_get-map instance_ident is i ∙ ap (option_map instance_ident) found.is_there) in
      let is_below : below_at cell_plan.cell.instances i ≡ h.the_instance.cell = ap (λ o. option_map_or (λ (one : HInst). one.cell) o 0) h.is_there in
      let is_ports : ports_at cell_plan.cells (below_at cell_plan.cell.instances i) ≡ h.below.ports = ap (ports_at cell_plan.cells) is_below ∙ ap (λ o. option_map_or (λ (c : HCell). c.ports) o []) h.is_below in
      record {
        inner = stands.made;
        of_instance = record {
          instance = found.item;
          is_there = ap (λ l. slice_get l i) (instances_are cell_name ps is ns properties) ∙ found.is_there;
          is_named = ap Some (at_get cell_plan.instances.idents i found.item.name.ident [] ident);
          file_number = number_of cell_plan.plan h.the_instance.cell;
          is_of = link_below i found.item (number_of cell_plan.plan h.the_instance.cell) stands.made found.is_there stands.is_there (ap (λ (f : InstanceSummary). f.library) found.shows) (ap (λ (f : InstanceSummary). f.cell) found.shows ∙ stands.head.cell);
        };
        inner_ports_apart = placed.ports_apart (number_of cell_plan.plan h.the_instance.cell) stands.made stands.is_there;
        of_port = found_port (ports stands.made) h.below.ports (head_of cell_plan.plan h.the_instance.cell).ports stands.head.ports_named stands.summaries port bit h.is_bit.the_port h.is_bit.is_there h.is_bit.within (pin_ref_for cell_plan i port bit)
            (ap (λ n. get_or (head_of cell_plan.plan n).ports port []) is_below) (ap (λ l. member_for (range_at l port) bit) is_ports);
      }

  -- a reference to a pin bit
  pub pin_means : (instance port bit : ℕ) → IsPinBit cell_plan.cells cell_plan.cell instance port bit → bit_meant linked (pin_ref_for cell_plan instance port bit) ≡ Some (nodes.Pin instance port bit)
  pin_means i port bit h =
      let found = pin_found i port bit h in
      pin_bit linked (pin_ref_for cell_plan i port bit) i found.inner inner_apart found.of_instance port bit found.inner_ports_apart found.of_port
