-- The modules of a cell without joins, and of one whose port is joined to that of an instance, are written for them.
use Rattle.std.proofs.Common.{◌≡◌, ◌⊎◌, inl, inr, ℕ, zero, suc, Bool, true, false, List, [], ◌∷◌, Option, None, Some, bytes_eq, map, slice_get, refl, sym, ap, subst, ◌∙◌, arith, Contains}
use Rattle.net_graph.proofs.WalkLaws.{linked_along, linked_alone, linked_by, linked_itself}
use Rattle.net_hier.proofs.Example.{kept}
use Rattle.net_hier.proofs.Near.{local_turn}
use Rattle.net_hier.specs.Cells.{HasLocalStep, IsBitOrConstant, IsLocallyConnected, IsPinBit, constant_node, width_of}
use Rattle.net_hier.specs.Example.{output, translated_cell, translated_design, zero_cell}
use Rattle.net_hier.specs.Facts.{HasProperty}
use Rattle.net_hier.specs.Valid.{HaveOwnNames}
use Rattle.net_hier.specs.declared.cells.HCell.{HCell}
use Rattle.net_hier.specs.declared.cells.HInst.{HInst}
use Rattle.net_hier.specs.declared.cells.HNet.{HNet}
use Rattle.net_hier.specs.declared.cells.HPort.{HPort}
use Rattle.net_hier.specs.declared.nodes.Join.{Join}
use Rattle.net_hier.specs.declared.nodes.Node.{Node}
use Rattle.net_hier.specs.declared.nodes.Node.TheVariants.{Port, Pin, Net, Zero, One}
use Rattle.net_stars.specs.StandIns.{itself}
use Rattle.net_stars.specs.Stars.{AreHubs, HasHub, HaveHub, Hubs}
use Rattle.vlog_design.specs.Names.{clashing}
use Rattle.vlog_values.specs.declared.module.Module.{Module}
use Rattle.vlog_values.specs.declared.statement.NamedConn.{NamedConn}
use Rattle.vlog_written.specs.Hubs.{IsOuter}
use Rattle.vlog_written.specs.Written.{PlainInstance, plain_module, port_expr}
use Rattle.vlog_written.proofs.Members.{nothing_there, there_cases, there_here, there_later}
use Rattle.vlog_plain.specs.Plain.{of_port}
use Rattle.vlog_plain.proofs.Uses.{none_some, only_one, some_same}
use Rattle.vlog_partners.specs.Example.{over_file, over_module, plain_output, zero_module}
use Rattle.vlog_partners.specs.Partners.{AreWritten, HasAssignOf, IsInstanceFor, IsModuleFor, IsPinOf, IsWritten, one_hub}
use Rattle.vlog_partners.proofs.Lists.{own_names}
use Rattle.vlog_partners.proofs.Example.{bare_port, first_bit, no_net, no_values, none_at, own_hub, turned}

-- ---- a cell without joins

abbrev no_hubs : Hubs
no_hubs node = None

zero_are_hubs : AreHubs translated_design.cells zero_cell itself (HasHub no_hubs)
zero_are_hubs = record {
  own = λ x hub t e. absurd (none_some hub e);
  one = λ x hub other t e f. absurd (none_some hub e);
  once = λ x y hub t u e f. absurd (none_some hub e);
  whole = λ x y t u link. inl (linked_alone (HasLocalStep zero_cell) x (λ z step. nothing_there step.join step.is_join) link);
}

zero_is : IsModuleFor translated_design 0 zero_cell zero_module
zero_is = record {
  same_name = refl;
  same_ports = refl;
  same_port_props = λ place port written e f. bare_port 71 place port written e f;
  same_props = no_values;
  distinct = ((λ m. nothing_there (71 ∷ []) m), tt);
  hubs = no_hubs;
  are_hubs = zero_are_hubs;
  assigns = λ set m. absurd (nothing_there set m);
  assigned = λ x hub outer e. absurd (none_some hub e);
  as_many = refl;
  instances = λ place instance written e f. absurd (none_at place instance e);
  wires = λ x number bit e. absurd (none_some (Net number) e);
  bare = λ x bit name value v. absurd (none_at v.number v.net v.gives.is_there);
}

-- ---- a port that is joined to that of an instance

abbrev over_hubs : Hubs
over_hubs (Port port bit) = Some (Port 0 0)
over_hubs (Pin instance port bit) = Some (Port 0 0)
over_hubs (Net net) = None
over_hubs Zero = None
over_hubs One = None

over_hub : (x hub : Node) → over_hubs x ≡ Some hub → Port 0 0 ≡ hub
over_hub (Port port bit) hub e = some_same (Port 0 0) hub e
over_hub (Pin instance port bit) hub e = some_same (Port 0 0) hub e
over_hub (Net net) hub e = absurd (none_some hub e)
over_hub Zero hub e = absurd (none_some hub e)
over_hub One hub e = absurd (none_some hub e)

-- the constant that a terminal is
abbrev constant_of : Node → Option Bool
constant_of (Port port bit) = None
constant_of (Pin instance port bit) = None
constant_of (Net net) = None
constant_of Zero = Some false
constant_of One = Some true

bit_hub : (x : Node) → IsBitOrConstant translated_design.cells translated_cell x → constant_of x ≡ None → over_hubs x ≡ Some (Port 0 0)
bit_hub (Port port bit) t e = refl
bit_hub (Pin instance port bit) t e = refl
bit_hub (Net net) t e = absurd t
bit_hub Zero t e = absurd (none_some false (sym e))
bit_hub One t e = absurd (none_some true (sym e))

constant_is : (x : Node) (one : Bool) → constant_of x ≡ Some one → x ≡ constant_node one
constant_is (Port port bit) one e = absurd (none_some one e)
constant_is (Pin instance port bit) one e = absurd (none_some one e)
constant_is (Net net) one e = absurd (none_some one e)
constant_is Zero one e = ap constant_node (some_same false one e)
constant_is One one e = ap constant_node (some_same true one e)

abbrev to_net : Node → Join
to_net node = record { a = Net 0; b = node }

over_kept : (join : Join) → Contains translated_cell.joins join → constant_of join.a ≡ constant_of join.b
over_kept join m = elim (there_cases (to_net (Port 0 0)) (to_net (Pin 0 0 0) ∷ []) join m) as (λ _. constant_of join.a ≡ constant_of join.b) [
  | inl e ↦ subst (λ (j : Join). constant_of j.a ≡ constant_of j.b) e refl
  | inr k ↦ subst (λ (j : Join). constant_of j.a ≡ constant_of j.b) (only_one (to_net (Pin 0 0 0)) join k) refl
]

over_whole : (x y : Node) → IsBitOrConstant translated_design.cells translated_cell x → IsBitOrConstant translated_design.cells translated_cell y → IsLocallyConnected translated_cell x y → (x ≡ y) ⊎ HaveHub (HasHub over_hubs) x y
over_whole x y t u link = by (constant_of x) refl (sym (kept translated_cell constant_of over_kept link))
  where
    by : (o : Option Bool) → constant_of x ≡ o → constant_of y ≡ constant_of x → (x ≡ y) ⊎ HaveHub (HasHub over_hubs) x y
    by None e f = inr (record { hub = Port 0 0; of_x = bit_hub x t e; of_y = bit_hub y u (f ∙ e) })
    by (Some one) e f = inl (constant_is x one e ∙ sym (constant_is y one (f ∙ e)))

-- the only pin bit
the_pin : (instance port bit : ℕ) → IsPinBit translated_design.cells translated_cell instance port bit → Pin instance port bit ≡ Pin 0 0 0
the_pin (suc instance) port bit pin = absurd (none_at instance pin.the_instance pin.is_there)
the_pin zero port bit pin =
    let one : record { name = 1 ∷ []; cell = 0; props = [] } ≡ pin.the_instance = some_same (record { name = 1 ∷ []; cell = 0; props = [] }) pin.the_instance pin.is_there in
    let cell : zero_cell ≡ pin.below = some_same zero_cell pin.below (subst (λ (i : HInst). slice_get translated_design.cells i.cell ≡ Some pin.below) (sym one) pin.is_below) in
    let there : slice_get (output 71 ∷ []) port ≡ Some pin.is_bit.the_port = subst (λ (c : HCell). slice_get c.ports port ≡ Some pin.is_bit.the_port) (sym cell) pin.is_bit.is_there in
    let first = first_bit (output 71) pin.is_bit.the_port port bit there pin.is_bit.within refl in
    λ j. Pin 0 (first.0 j) (first.1 j)

port_step : HasLocalStep translated_cell (Net 0) (Port 0 0)
port_step = record { join = to_net (Port 0 0); is_join = there_here (to_net (Port 0 0)) (to_net (Pin 0 0 0) ∷ []); has_both = inl (refl, refl) }

pin_step : HasLocalStep translated_cell (Net 0) (Pin 0 0 0)
pin_step = record { join = to_net (Pin 0 0 0); is_join = there_later (to_net (Port 0 0)) (to_net (Pin 0 0 0) ∷ []) (to_net (Pin 0 0 0)) (there_here (to_net (Pin 0 0 0)) []); has_both = inl (refl, refl) }

over_to_port : (x hub : Node) → IsBitOrConstant translated_design.cells translated_cell x → over_hubs x ≡ Some hub → IsLocallyConnected translated_cell x (Port 0 0)
over_to_port (Port port bit) hub t e =
    let first = first_bit (output 4) t.the_port port bit t.is_there t.within refl in
    subst (λ y. IsLocallyConnected translated_cell y (Port 0 0)) (sym (λ j. Port (first.0 j) (first.1 j))) (linked_itself (HasLocalStep translated_cell) (Port 0 0))
over_to_port (Pin instance port bit) hub t e =
    subst (λ y. IsLocallyConnected translated_cell y (Port 0 0)) (sym (the_pin instance port bit t)) (linked_along (linked_by (local_turn pin_step)) (linked_by port_step))
over_to_port (Net net) hub t e = absurd t
over_to_port Zero hub t e = absurd (none_some hub e)
over_to_port One hub t e = absurd (none_some hub e)

over_are_hubs : AreHubs translated_design.cells translated_cell itself (HasHub over_hubs)
over_are_hubs = record {
  own = λ x hub t e. inr (own_hub translated_design.cells translated_cell (output 4) over_hubs hub refl (omega arith) refl (over_hub x hub e));
  one = λ x hub other t e f. some_same hub other (sym e ∙ f);
  once = λ x y hub t u e f. linked_along (over_to_port x hub t e) (turned translated_cell y (Port 0 0) (over_to_port y hub u f));
  whole = over_whole;
}

abbrev the_conn : NamedConn
the_conn = record { port = 71 ∷ []; value = Some (port_expr (plain_output 4) 0) }

abbrev the_instance : HInst
the_instance = record { name = 1 ∷ []; cell = 0; props = [] }

abbrev the_written : PlainInstance
the_written = record { attrs = []; of = 71 ∷ 78 ∷ 68 ∷ []; params = []; name = 1 ∷ []; conns = the_conn ∷ [] }

over_pins : (port : ℕ) (the_port : HPort) (conn : NamedConn) → slice_get zero_cell.ports port ≡ Some the_port → slice_get (the_conn ∷ []) port ≡ Some conn → IsPinOf over_module over_hubs 0 port (width_of the_port.range) conn.value
over_pins zero the_port conn e f =
    subst (λ (p : HPort). IsPinOf over_module over_hubs 0 0 (width_of p.range) conn.value) (some_same (output 71) the_port e)
    (subst (λ (c : NamedConn). IsPinOf over_module over_hubs 0 0 1 c.value) (some_same the_conn conn f)
    (one_hub (Port 0 0) (port_expr (plain_output 4) 0) refl (of_port 0 (plain_output 4) 0 refl (omega arith) refl refl) refl refl))
over_pins (suc port) the_port conn e f = absurd (none_at port the_port e)

over_instance : IsInstanceFor translated_design.cells over_hubs over_module 0 the_instance the_written
over_instance = record {
  same_name = refl;
  below = zero_cell;
  is_below = refl;
  of_below = refl;
  same_props = no_values;
  params_once = tt;
  each_port = refl;
  pins = over_pins;
}

over_is : IsModuleFor translated_design 1 translated_cell over_module
over_is = record {
  same_name = refl;
  same_ports = refl;
  same_port_props = λ place port written e f. bare_port 4 place port written e f;
  same_props = no_values;
  distinct = ((λ m. differ (only_one (1 ∷ []) (4 ∷ []) m)), ((λ m. nothing_there (1 ∷ []) m), tt));
  hubs = over_hubs;
  are_hubs = over_are_hubs;
  assigns = λ set m. absurd (nothing_there set m);
  assigned = assigned;
  as_many = refl;
  instances = instances;
  wires = λ x number bit e. absurd (no_net (Net number) number (over_hub x (Net number) e) refl);
  bare = λ x bit name value v. absurd (bare_nets v.number v.net name v.gives.is_there v.gives.has_property);
}
  where
    differ : ◌≡◌ {A = List ℕ} (1 ∷ []) (4 ∷ []) → ⊥
    differ e = absurd (cc)

    assigned : (x hub : Node) → IsOuter translated_cell x → over_hubs x ≡ Some hub → (x ≡ hub) ⊎ HasAssignOf over_module x hub
    assigned (Port port bit) hub outer e =
        let first = first_bit (output 4) outer.the_port port bit outer.is_there outer.within refl in
        inl ((λ j. Port (first.0 j) (first.1 j)) ∙ some_same (Port 0 0) hub e)
    assigned (Pin instance port bit) hub outer e = absurd outer
    assigned (Net net) hub outer e = absurd outer
    assigned Zero hub outer e = absurd (none_some hub e)
    assigned One hub outer e = absurd (none_some hub e)

    instances : (place : ℕ) (instance : HInst) (written : PlainInstance) → slice_get translated_cell.instances place ≡ Some instance → slice_get over_module.instances place ≡ Some written → IsInstanceFor translated_design.cells over_hubs over_module place instance written
    instances zero instance written e f =
        subst (λ i. IsInstanceFor translated_design.cells over_hubs over_module 0 i written) (some_same the_instance instance e)
        (subst (λ w. IsInstanceFor translated_design.cells over_hubs over_module 0 the_instance w) (some_same the_written written f) over_instance)
    instances (suc place) instance written e f = absurd (none_at place instance e)

    bare_nets : (number : ℕ) (net : HNet) (name : List ℕ) → slice_get translated_cell.nets number ≡ Some net → HasProperty net.props name → ⊥
    bare_nets zero net name e h = subst (λ (n : HNet). HasProperty n.props name) (sym (some_same (record { name = 4 ∷ []; props = [] }) net e)) h
    bare_nets (suc number) net name e h = none_at number net e

-- the two modules are written
pub over_written : AreWritten translated_design over_file.modules
over_written = record { as_many = refl; each = each }
  where
    each : (place number : ℕ) (m : Module) → slice_get (0 ∷ 1 ∷ []) place ≡ Some number → slice_get (plain_module zero_module ∷ plain_module over_module ∷ []) place ≡ Some m → IsWritten translated_design number m
    each zero number m e f =
        subst (λ k. IsWritten translated_design k m) (some_same 0 number e) (record { cell = zero_cell; is_cell = refl; p = zero_module; is_plain = sym (some_same (plain_module zero_module) m f); is_for = zero_is })
    each (suc zero) number m e f =
        subst (λ k. IsWritten translated_design k m) (some_same 1 number e) (record { cell = translated_cell; is_cell = refl; p = over_module; is_plain = sym (some_same (plain_module over_module) m f); is_for = over_is })
    each (suc (suc place)) number m e f = absurd (none_at place number e)

no_second : clashing bytes_eq [] (map (λ (cell : HCell). cell.name) translated_design.cells) ≡ []
unfolding clashing
no_second = refl

-- the cells have names of their own
pub over_names : HaveOwnNames (λ (cell : HCell). cell.name) translated_design.cells
over_names = own_names (λ (cell : HCell). cell.name) translated_design.cells no_second
