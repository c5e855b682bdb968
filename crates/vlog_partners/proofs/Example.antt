-- The module of a cell whose port is joined to the constant zero is written for it.
use Rattle.std.proofs.Common.{◌≡◌, ◌⊎◌, inl, inr, ℕ, zero, suc, ◌<◌, Bool, true, false, List, [], ◌∷◌, None, Some, bytes_eq, map, slice_get, refl, sym, ap, subst, ◌∙◌, arith, Contains}
use Rattle.net_graph.proofs.WalkLaws.{linked_along, linked_back, linked_by, linked_itself}
use Rattle.net_hier.proofs.Example.{kept}
use Rattle.net_hier.proofs.Near.{local_turn}
use Rattle.net_hier.specs.Cells.{HasLocalStep, IsBitOrConstant, IsLocallyConnected, width_of}
use Rattle.net_hier.specs.Example.{output, tied_cell, tied_design}
use Rattle.net_hier.specs.Facts.{SameValues}
use Rattle.net_hier.specs.Valid.{HaveOwnNames}
use Rattle.net_hier.specs.declared.cells.HCell.{HCell}
use Rattle.net_hier.specs.declared.cells.HPort.{HPort}
use Rattle.net_hier.specs.declared.nodes.Join.{Join}
use Rattle.net_hier.specs.declared.nodes.Node.{Node}
use Rattle.net_hier.specs.declared.nodes.Node.TheVariants.{Port, Pin, Net, Zero, One}
use Rattle.net_stars.specs.StandIns.{itself}
use Rattle.net_stars.specs.Stars.{AreHubs, HasHub, HaveHub, Hubs, IsOwnHub}
use Rattle.vlog_design.specs.Design.{attr_props}
use Rattle.vlog_design.specs.Names.{clashing}
use Rattle.vlog_values.specs.declared.expression.Expr.TheVariants.{Lit}
use Rattle.vlog_values.specs.declared.module.Module.{Module}
use Rattle.vlog_values.specs.declared.statement.Assignment.{Assignment}
use Rattle.vlog_written.specs.Hubs.{IsOuter}
use Rattle.vlog_written.specs.Written.{PlainPort, bit_literal, plain_module, port_expr}
use Rattle.vlog_written.proofs.Members.{nothing_there, there_here}
use Rattle.vlog_plain.specs.Plain.{of_constant, of_port}
use Rattle.vlog_plain.proofs.Uses.{none_some, only_one, some_same}
use Rattle.vlog_partners.specs.Example.{plain_output, tied_file, tied_module}
use Rattle.vlog_partners.specs.Partners.{AreSides, AreWritten, HasAssignOf, IsModuleFor, IsWritten}
use Rattle.vlog_partners.proofs.Lists.{own_names}

-- ---- one port

pub none_at : {A : Type 0} (place : ℕ) (x : A) → slice_get [] place ≡ Some x → ⊥
none_at place x e = none_some x e

pub first_bit : (one the_port : HPort) (port bit : ℕ) → slice_get (one ∷ []) port ≡ Some the_port → bit < width_of the_port.range → one.range ≡ None → (port ≡ 0) × (bit ≡ 0)
first_bit one the_port zero bit e h r =
    let same : one ≡ the_port = some_same one the_port e in
    let lt : bit < 1 = subst (λ w. bit < width_of w) (sym (ap (λ (p : HPort). p.range) same) ∙ r) h in
    (refl, omega (arith, lt))
first_bit one the_port (suc port) bit e h r = absurd (none_at port the_port e)

pub no_values : SameValues [] []
no_values name value = ((λ h. h), (λ h. h))

-- a port without properties is one without attributes
pub bare_port : (n place : ℕ) (port : HPort) (written : PlainPort) → slice_get (output n ∷ []) place ≡ Some port → slice_get (plain_output n ∷ []) place ≡ Some written → SameValues port.props (attr_props written.attrs)
bare_port n zero port written e f =
    let one : output n ≡ port = some_same (output n) port e in
    let two : plain_output n ≡ written = some_same (plain_output n) written f in
    subst (λ (p : HPort). SameValues p.props (attr_props written.attrs)) one (subst (λ (w : PlainPort). SameValues (output n).props (attr_props w.attrs)) two no_values)
bare_port n (suc place) port written e f = absurd (none_at place port e)

pub own_hub : (cells : List HCell) (cell : HCell) (the_port : HPort) (hubs : Hubs) (hub : Node) → slice_get cell.ports 0 ≡ Some the_port → 0 < width_of the_port.range → hubs (Port 0 0) ≡ Some (Port 0 0) → Port 0 0 ≡ hub → IsOwnHub cells cell itself (HasHub hubs) hub
own_hub cells cell the_port hubs hub e h is same =
    subst (IsOwnHub cells cell itself (HasHub hubs)) same (record { terminal = Port 0 0; is_terminal = record { the_port = the_port; is_there = e; within = h }; stands = refl; is_hub = is })

-- ---- a port that is joined to the constant

abbrev tied_hubs : Hubs
tied_hubs (Port port bit) = Some (Port 0 0)
tied_hubs (Pin instance port bit) = None
tied_hubs (Net net) = None
tied_hubs Zero = Some (Port 0 0)
tied_hubs One = None

tied_terminal : (x : Node) → IsBitOrConstant tied_design.cells tied_cell x → (x ≡ Port 0 0) ⊎ ((x ≡ Zero) ⊎ (x ≡ One))
tied_terminal (Port port bit) h = let e = first_bit (output 4) h.the_port port bit h.is_there h.within refl in inl (λ j. Port (e.0 j) (e.1 j))
tied_terminal (Pin instance port bit) h = absurd (none_at instance h.the_instance h.is_there)
tied_terminal (Net net) h = absurd h
tied_terminal Zero h = inr (inl refl)
tied_terminal One h = inr (inr refl)

tied_hub : (x hub : Node) → tied_hubs x ≡ Some hub → Port 0 0 ≡ hub
tied_hub (Port port bit) hub e = some_same (Port 0 0) hub e
tied_hub (Pin instance port bit) hub e = absurd (none_some hub e)
tied_hub (Net net) hub e = absurd (none_some hub e)
tied_hub Zero hub e = some_same (Port 0 0) hub e
tied_hub One hub e = absurd (none_some hub e)

zero_step : HasLocalStep tied_cell (Port 0 0) Zero
zero_step = record { join = record { a = Port 0 0; b = Zero }; is_join = there_here (record { a = Port 0 0; b = Zero }) []; has_both = inl (refl, refl) }

-- each with a hub is connected to it
to_port : (x hub : Node) → IsBitOrConstant tied_design.cells tied_cell x → tied_hubs x ≡ Some hub → IsLocallyConnected tied_cell x (Port 0 0)
to_port x hub t e = elim (tied_terminal x t) as (λ _. IsLocallyConnected tied_cell x (Port 0 0)) [
  | inl h ↦ subst (λ y. IsLocallyConnected tied_cell y (Port 0 0)) (sym h) (linked_itself (HasLocalStep tied_cell) (Port 0 0))
  | inr r ↦ elim r as (λ _. IsLocallyConnected tied_cell x (Port 0 0)) [
    | inl h ↦ subst (λ y. IsLocallyConnected tied_cell y (Port 0 0)) (sym h) (linked_by (local_turn zero_step))
    | inr h ↦ absurd (none_some hub (ap tied_hubs (sym h) ∙ e))
  ]
]

pub turned : (cell : HCell) (x y : Node) → IsLocallyConnected cell x y → IsLocallyConnected cell y x
turned cell x y link = linked_back (HasLocalStep cell) (λ a b s. local_turn s) link

abbrev is_tied : Node → Bool
is_tied (Port port bit) = true
is_tied (Pin instance port bit) = true
is_tied (Net net) = true
is_tied Zero = true
is_tied One = false

tied_side : (x y : Node) → IsLocallyConnected tied_cell x y → is_tied x ≡ is_tied y
tied_side x y link = kept tied_cell is_tied (λ join m. let e : record { a = Port 0 0; b = Zero } ≡ join = only_one (record { a = Port 0 0; b = Zero }) join m in ap (λ (j : Join). is_tied j.a) (sym e) ∙ ap (λ (j : Join). is_tied j.b) e) link

-- of a terminal: it has the hub, or is the one
tied_or_one : (x : Node) → IsBitOrConstant tied_design.cells tied_cell x → ((tied_hubs x ≡ Some (Port 0 0)) × (is_tied x ≡ true)) ⊎ ((x ≡ One) × (is_tied x ≡ false))
tied_or_one x t = elim (tied_terminal x t) as (λ _. ((tied_hubs x ≡ Some (Port 0 0)) × (is_tied x ≡ true)) ⊎ ((x ≡ One) × (is_tied x ≡ false))) [
  | inl h ↦ inl (ap tied_hubs h, ap is_tied h)
  | inr r ↦ elim r as (λ _. ((tied_hubs x ≡ Some (Port 0 0)) × (is_tied x ≡ true)) ⊎ ((x ≡ One) × (is_tied x ≡ false))) [
    | inl h ↦ inl (ap tied_hubs h, ap is_tied h)
    | inr h ↦ inr (h, ap is_tied h)
  ]
]

true_false : true ≡ false → ⊥
true_false e = cc

tied_whole : (x y : Node) → IsBitOrConstant tied_design.cells tied_cell x → IsBitOrConstant tied_design.cells tied_cell y → IsLocallyConnected tied_cell x y → (x ≡ y) ⊎ HaveHub (HasHub tied_hubs) x y
tied_whole x y t u link = elim (tied_or_one x t) as (λ _. (x ≡ y) ⊎ HaveHub (HasHub tied_hubs) x y) [
  | inl h ↦ elim (tied_or_one y u) as (λ _. (x ≡ y) ⊎ HaveHub (HasHub tied_hubs) x y) [
    | inl k ↦ inr (record { hub = Port 0 0; of_x = h.0; of_y = k.0 })
    | inr k ↦ absurd (true_false (sym h.1 ∙ (tied_side x y link ∙ k.1)))
  ]
  | inr h ↦ elim (tied_or_one y u) as (λ _. (x ≡ y) ⊎ HaveHub (HasHub tied_hubs) x y) [
    | inl k ↦ absurd (true_false (sym k.1 ∙ (sym (tied_side x y link) ∙ h.1)))
    | inr k ↦ inl (h.0 ∙ sym k.0)
  ]
]

tied_are_hubs : AreHubs tied_design.cells tied_cell itself (HasHub tied_hubs)
tied_are_hubs = record {
  own = λ x hub t e. inr (own_hub tied_design.cells tied_cell (output 4) tied_hubs hub refl (omega arith) refl (tied_hub x hub e));
  one = λ x hub other t e f. some_same hub other (sym e ∙ f);
  once = λ x y hub t u e f. linked_along (to_port x hub t e) (turned tied_cell y (Port 0 0) (to_port y hub u f));
  whole = tied_whole;
}

abbrev the_set : Assignment
the_set = record { left = port_expr (plain_output 4) 0; right = Lit (bit_literal false) }

tied_sides : (set : Assignment) → Contains tied_module.assigns set → AreSides tied_module set Zero (Port 0 0)
tied_sides set m =
    subst (λ s. AreSides tied_module s Zero (Port 0 0)) (only_one the_set set m) (inr (of_port 0 (plain_output 4) 0 refl (omega arith) refl refl, of_constant false refl refl))

pub no_net : (hub : Node) (net : ℕ) → Port 0 0 ≡ hub → hub ≡ Net net → ⊥
no_net hub net e f = let same : Port 0 0 ≡ Net net = e ∙ f in cc

tied_is : IsModuleFor tied_design 0 tied_cell tied_module
tied_is = record {
  same_name = refl;
  same_ports = refl;
  same_port_props = λ place port written e f. bare_port 4 place port written e f;
  same_props = no_values;
  distinct = ((λ m. nothing_there (4 ∷ []) m), tt);
  hubs = tied_hubs;
  are_hubs = tied_are_hubs;
  assigns = λ set m. record { terminal = Zero; hub = Port 0 0; is_terminal = tt; is_hub = refl; sides = tied_sides set m };
  assigned = assigned;
  as_many = refl;
  instances = λ place instance written e f. absurd (none_at place instance e);
  wires = λ x number bit e. absurd (no_net (Net number) number (tied_hub x (Net number) e) refl);
  bare = λ x bit name value v. absurd (none_at v.number v.net v.gives.is_there);
}
  where
    assigned : (x hub : Node) → IsOuter tied_cell x → tied_hubs x ≡ Some hub → (x ≡ hub) ⊎ HasAssignOf tied_module x hub
    assigned (Port port bit) hub outer e =
        let first = first_bit (output 4) outer.the_port port bit outer.is_there outer.within refl in
        inl ((λ j. Port (first.0 j) (first.1 j)) ∙ some_same (Port 0 0) hub e)
    assigned (Pin instance port bit) hub outer e = absurd outer
    assigned (Net net) hub outer e = absurd outer
    assigned Zero hub outer e =
        inr (subst (HasAssignOf tied_module Zero) (some_same (Port 0 0) hub e) (record { set = the_set; is_there = there_here the_set []; sides = tied_sides the_set (there_here the_set []) }))
    assigned One hub outer e = absurd (none_some hub e)

-- the one module is written
pub tied_written : AreWritten tied_design tied_file.modules
tied_written = record { as_many = refl; each = each }
  where
    each : (place number : ℕ) (m : Module) → slice_get (0 ∷ []) place ≡ Some number → slice_get (plain_module tied_module ∷ []) place ≡ Some m → IsWritten tied_design number m
    each zero number m e f =
        let n : 0 ≡ number = some_same 0 number e in
        subst (λ k. IsWritten tied_design k m) n (record { cell = tied_cell; is_cell = refl; p = tied_module; is_plain = sym (some_same (plain_module tied_module) m f); is_for = tied_is })
    each (suc place) number m e f = absurd (none_at place number e)

no_second : clashing bytes_eq [] (map (λ (cell : HCell). cell.name) tied_design.cells) ≡ []
unfolding clashing
no_second = refl

-- the cells have names of their own
pub tied_names : HaveOwnNames (λ (cell : HCell). cell.name) tied_design.cells
tied_names = own_names (λ (cell : HCell). cell.name) tied_design.cells no_second
