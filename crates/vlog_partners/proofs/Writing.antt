-- A module that is written for a cell leads from its terminals to their hubs.
use Rattle.std.proofs.Common.{◌≡◌, ◌⊎◌, ◌↔◌, inl, inr, ℕ, ◌<◌, true, List, ◌++◌, Some, bytes_eq, slice_get, sym, ap, subst, ◌∙◌, arith, Contains}
use Rattle.std.specs.Prelude.{option_map}
use Rattle.std.specs.List.{position_or_len}
use Rattle.std.proofs.lemmas.Option.{slice_get-map}
use Rattle.nl_base.specs.declared.value.PropValue.{PropValue}
use Rattle.net_graph.proofs.ListLaws.{same_element}
use Rattle.net_graph.proofs.OrderLaws.{StandsIn, contained}
use Rattle.net_hier.specs.Cells.{IsBitOrConstant, IsLocallyConnected, IsPinBit, width_of}
use Rattle.net_hier.specs.Design.{Design, top_name}
use Rattle.net_hier.specs.Facts.{HasNetValue}
use Rattle.net_hier.specs.SameDesign.{signature_of, PortSignature}
use Rattle.net_hier.specs.Valid.{HaveOwnNames, IsValid}
use Rattle.net_hier.specs.declared.cells.HCell.{HCell}
use Rattle.net_hier.specs.declared.cells.HPort.{HPort}
use Rattle.net_hier.specs.declared.nodes.Node.{Node}
use Rattle.net_hier.specs.declared.nodes.Node.TheVariants.{Pin}
use Rattle.net_stars.specs.Stars.{AreWires, HasHub, IsBit, IsWireFor}
use Rattle.vlog_design.specs.Design.{module_cell, port_number}
use Rattle.vlog_design.specs.Exprs.{bits}
use Rattle.vlog_design.specs.Names.{Signal, has_name, port_names, port_range, signals}
use Rattle.vlog_design.specs.Reach.{module_named}
use Rattle.vlog_values.specs.declared.expression.Expr.{Expr}
use Rattle.vlog_values.specs.declared.module.Module.{Module}
use Rattle.vlog_values.specs.declared.statement.Assignment.{Assignment}
use Rattle.vlog_values.specs.declared.statement.NamedConn.{NamedConn}
use Rattle.vlog_written.specs.Hubs.{ConnectsHubs, HasAssign, IsAssignOf, IsConnection, IsOuter, WritesHubs}
use Rattle.vlog_written.specs.OwnNames.{AreDistinct, instances_named, ports_named, wires_named}
use Rattle.vlog_written.specs.Written.{PlainInstance, PlainModule, PlainPort, plain_module}
use Rattle.vlog_written.proofs.Members.{any_there, distinct_left, there_at, there_mapped}
use Rattle.vlog_written.proofs.Names.{range_of_port}
use Rattle.vlog_written.proofs.Shape.{names_of_ports}
use Rattle.vlog_written.proofs.Stars.{connection_written, values_written}
use Rattle.vlog_plain.specs.Parts.{net_in_cell, plain_cell}
use Rattle.vlog_plain.specs.Plain.{IsPlainFile, IsPlainModule, plain_modules}
use Rattle.vlog_plain.proofs.Lists.{same}
use Rattle.vlog_plain.proofs.Parts.{cell_is}
use Rattle.vlog_plain.proofs.Places.{found}
use Rattle.vlog_plain.proofs.Uses.{are_apart}
use Rattle.vlog_partners.specs.Partners.{HasAssignOf, HasWire, IsHubAssign, IsPinOf, signature_of_plain}
use Rattle.vlog_partners.proofs.Fitting.{file_is, module_is, ports_below, the_top}
use Rattle.vlog_partners.proofs.Here.{AreModulesFor, Below, Here, below_at, name_below}
use Rattle.vlog_partners.proofs.Lists.{IsMatched, as_long, matched, place_in}
use Rattle.vlog_partners.proofs.Means.{HasThere, both_mean, has_there, is_hub_there}

module _ (design : Design) (ps : List PlainModule) (valid : IsValid design) (are : AreModulesFor design ps) (own : HaveOwnNames (λ (cell : HCell). cell.name) design.cells) where
  abbrev modules : List Module
  modules = plain_modules ps

  file : IsPlainFile ps (the_top design ps valid are).place (top_name design.cells design.top)
  file = file_is design ps valid are own

  module _ (place : ℕ) (here : Here design ps place) where
    abbrev names : List Signal
    names = signals (plain_module here.p)

    is : IsPlainModule ps place here.p
    is = module_is design ps valid are place here

    module _ (t : ℕ) (written : PlainInstance) (b : Below design ps place here t written) where
      abbrev below : Module
      below = plain_module b.there.p

      is_below : module_named modules written.of ≡ Some below
      is_below = ap (module_named modules) (sym (name_below design ps valid are place here t written b)) ∙ found ps b.before b.there.p file.distinct b.there.is_module

      distinct_below : AreDistinct (ports_named b.there.p)
      distinct_below = distinct_left (ports_named b.there.p) (instances_named b.there.p ++ wires_named b.there.p) b.there.is_for.distinct

      -- a connection at a place connects the port at this place
      record IsConnAt (c : ℕ) (conn : NamedConn) : Type 0 where
        the_port : HPort
        is_port : slice_get b.is_for.below.ports c ≡ Some the_port
        is_known : has_name (port_names below) conn.port ≡ true
        is_number : port_number below conn.port ≡ c
        is_width : width_of (port_range below conn.port) ≡ width_of the_port.range
        is_pin : IsPinOf here.p here.is_for.hubs t c (width_of the_port.range) conn.value

      conn_at : (c : ℕ) (conn : NamedConn) → slice_get written.conns c ≡ Some conn → IsConnAt c conn
      conn_at c conn e =
          let q : IsMatched (λ (port : HPort). port.name) b.is_for.below.ports c conn.port = matched (λ (x : NamedConn). x.port) (λ (port : HPort). port.name) written.conns b.is_for.below.ports b.is_for.each_port c conn e in
          let f : IsMatched signature_of_plain b.there.p.ports c (signature_of q.item) = matched signature_of signature_of_plain b.is_for.below.ports b.there.p.ports (ports_below design ps valid are place here t written b) c q.item q.is_there in
          let named : conn.port ≡ f.item.name = q.is_value ∙ ap (λ (signature : PortSignature). signature.name) f.is_value in
          let name_there : slice_get (ports_named b.there.p) c ≡ Some f.item.name = slice_get-map (λ (port : PlainPort). port.name) b.there.p.ports c ∙ ap (option_map (λ (port : PlainPort). port.name)) f.is_there in
          record {
            the_port = q.item;
            is_port = q.is_there;
            is_known = ap (λ known. has_name known conn.port) (names_of_ports b.there.p) ∙ any_there (bytes_eq conn.port) (ports_named b.there.p) f.item.name (there_mapped (λ (port : PlainPort). port.name) b.there.p.ports f.item (there_at b.there.p.ports c f.item f.is_there)) (same conn.port f.item.name named);
            is_number = ap (port_number below) named ∙ (ap (position_or_len (bytes_eq f.item.name)) (names_of_ports b.there.p) ∙ place_in (ports_named b.there.p) c f.item.name distinct_below name_there);
            is_width = ap width_of (ap (port_range below) named ∙ range_of_port b.there.p c f.item distinct_below f.is_there) ∙ sym (ap (λ (signature : PortSignature). width_of signature.range) f.is_value);
            is_pin = b.is_for.pins c q.item conn q.is_there e;
          }

      sound_at : (c : ℕ) (conn : NamedConn) → IsConnAt c conn → (value : Expr) (bit : ℕ) (node : Node) → conn.value ≡ Some value → bit < width_of (port_range below conn.port) → slice_get (bits names value) bit ≡ Some (Some node) →
          IsPinBit design.cells here.cell t c bit × (here.is_for.hubs (Pin t c bit) ≡ Some node)
      sound_at c conn k value bit node v lt at =
          let within : bit < width_of k.the_port.range = omega (arith, lt, k.is_width) in (
            record { the_instance = b.instance; is_there = b.is_instance; below = b.is_for.below; is_below = b.is_for.is_below; is_bit = record { the_port = k.the_port; is_there = k.is_port; within = within } },
            is_hub_there ps place here.p is here.is_for.hubs t c (width_of k.the_port.range) conn.value value bit node k.is_pin v within at,
          )

      sound : (conn : NamedConn) (value : Expr) (bit : ℕ) (node : Node) → IsConnection below written.conns conn value → bit < width_of (port_range below conn.port) → slice_get (bits names value) bit ≡ Some (Some node) →
          IsPinBit design.cells here.cell t (port_number below conn.port) bit × (here.is_for.hubs (Pin t (port_number below conn.port) bit) ≡ Some node)
      sound conn value bit node made lt at =
          let s : StandsIn written.conns conn = contained written.conns conn made.is_there in
          let k : IsConnAt s.place conn = conn_at s.place conn s.is_there in
          subst (λ n. IsPinBit design.cells here.cell t n bit × (here.is_for.hubs (Pin t n bit) ≡ Some node)) (sym k.is_number) (sound_at s.place conn k value bit node made.is_value lt at)

      complete : (port bit : ℕ) (hub : Node) → IsPinBit design.cells here.cell t port bit → here.is_for.hubs (Pin t port bit) ≡ Some hub →
          (conn : NamedConn) × (value : Expr) × IsConnection below written.conns conn value × (port_number below conn.port ≡ port) × (bit < width_of (port_range below conn.port)) × (slice_get (bits names value) bit ≡ Some (Some hub))
      complete port bit hub pin h =
          let same_instance = same_element here.cell.instances t pin.the_instance b.instance pin.is_there b.is_instance in
          let same_below : pin.below ≡ b.is_for.below = same_element design.cells b.instance.cell pin.below b.is_for.below (subst (λ i. slice_get design.cells i ≡ Some pin.below) (ap (λ i. i.cell) same_instance) pin.is_below) b.is_for.is_below in
          let port_there : slice_get b.is_for.below.ports port ≡ Some pin.is_bit.the_port = subst (λ (c : HCell). slice_get c.ports port ≡ Some pin.is_bit.the_port) same_below pin.is_bit.is_there in
          let m : IsMatched (λ (c : NamedConn). c.port) written.conns port pin.is_bit.the_port.name = matched (λ (x : HPort). x.name) (λ (c : NamedConn). c.port) b.is_for.below.ports written.conns (sym b.is_for.each_port) port pin.is_bit.the_port port_there in
          let k : IsConnAt port m.item = conn_at port m.item m.is_there in
          let same_port : k.the_port ≡ pin.is_bit.the_port = same_element b.is_for.below.ports port k.the_port pin.is_bit.the_port k.is_port port_there in
          let width : width_of k.the_port.range ≡ width_of pin.is_bit.the_port.range = ap (λ (x : HPort). width_of x.range) same_port in
          let within : bit < width_of k.the_port.range = let lt = pin.is_bit.within in omega (arith, lt, width) in
          let v : HasThere ps place here.p is here.is_for.hubs t port (width_of k.the_port.range) m.item.value bit hub = has_there ps place here.p is here.is_for.hubs t port (width_of k.the_port.range) m.item.value bit hub k.is_pin within h in
          (m.item, v.value, record { is_there = there_at written.conns port m.item m.is_there; is_value = v.is_value; is_port = k.is_known }, k.is_number, omega (arith, within, k.is_width), v.is_there)

      connects : ConnectsHubs design.cells here.cell here.is_for.hubs modules names t written
      connects = record { below = below; is_below = is_below; sound = sound; complete = complete }

    assign_of : (set : Assignment) → Contains here.p.assigns set → IsAssignOf design.cells here.cell here.is_for.hubs names set
    assign_of set m =
        let a : IsHubAssign design.cells here.cell here.is_for.hubs here.p set = here.is_for.assigns set m in
        record { terminal = a.terminal; hub = a.hub; is_terminal = a.is_terminal; is_hub = a.is_hub; means = both_mean ps place here.p is set a.terminal a.hub a.sides }

    assign_for : (x hub : Node) → IsOuter here.cell x → here.is_for.hubs x ≡ Some hub → (x ≡ hub) ⊎ HasAssign names here.p.assigns x hub
    assign_for x hub outer e = elim (here.is_for.assigned x hub outer e) as (λ _. (x ≡ hub) ⊎ HasAssign names here.p.assigns x hub) [
      | inl h ↦ inl h
      | inr a ↦ inr (by a)
    ]
      where
        by : HasAssignOf here.p x hub → HasAssign names here.p.assigns x hub
        by a = record { set = a.set; is_there = a.is_there; means = both_mean ps place here.p is a.set x hub a.sides }

    writes : WritesHubs design.cells here.cell here.is_for.hubs modules here.p
    writes = record {
      assigns = assign_of;
      assigned = assign_for;
      instances = λ number written e. connects number written (below_at design ps valid are place here number written e);
      all = λ number port bit pin. as_long here.cell.instances here.p.instances here.is_for.as_many number pin.the_instance pin.is_there;
    }

    the_cell : module_cell modules (plain_module here.p) ≡ plain_cell modules here.p
    the_cell = cell_is modules here.p (are_apart ps place here.p is)

    are_wires : AreWires design.cells here.cell (module_cell modules (plain_module here.p)) (HasHub here.is_for.hubs)
    are_wires = record { wires = λ x number bit e. net_there x number (here.is_for.wires x number bit e); bare = here.is_for.bare }
      where
        net_there : (x : Node) (number : ℕ) → (w : HasWire here.cell here.p x number) → IsWireFor here.cell (module_cell modules (plain_module here.p)) x number
        net_there x number w = record {
          net = net_in_cell w.wire;
          is_there = ap (λ (c : HCell). slice_get c.nets number) the_cell ∙ (slice_get-map net_in_cell here.p.wires number ∙ ap (option_map net_in_cell) w.is_there);
          values = w.values;
        }

    -- the cell of the module connects its terminals as the cell does
    pub keeps_connection : (x y : Node) → IsBitOrConstant design.cells here.cell x → IsBitOrConstant design.cells here.cell y → IsLocallyConnected here.cell x y ↔ IsLocallyConnected (plain_cell modules here.p) x y
    keeps_connection x y h k =
        subst (λ (c : HCell). IsLocallyConnected here.cell x y ↔ IsLocallyConnected c x y) the_cell (connection_written design.cells here.cell here.is_for.hubs modules here.p writes here.is_for.are_hubs x y h k)

    -- and gives its bits the same values
    pub keeps_values : (x : Node) → IsBit design.cells here.cell x → (name : List ℕ) (value : PropValue) → HasNetValue here.cell x name value ↔ HasNetValue (plain_cell modules here.p) x name value
    keeps_values x bit name value =
        subst (λ (c : HCell). HasNetValue here.cell x name value ↔ HasNetValue c x name value) the_cell (values_written design.cells here.cell here.is_for.hubs modules here.p writes here.is_for.are_hubs are_wires x bit name value)
