-- A cell whose port is joined to Zero, and the same cell of a target with an added instance of a zero cell: the two designs are the same, cell by cell.
use Rattle.std.proofs.Common.{◌≡◌, ℕ, zero, suc, ◌<◌, ◌≤◌, ◌⊎◌, ◌↔◌, ◌≢◌, inl, inr, List, [], ◌∷◌, refl, sym, ◌∙◌, ap, subst, subst₂, slice_get, Some, None, Option, Bool, true, false, arith}
use Rattle.nl_base.specs.declared.value.PropValue.{PropValue}
use Rattle.std.specs.Prelude.{Contains, slice_index_or, IsSome}
use Rattle.net_hier.specs.Cells.{HasLocalStep, IsBitOrConstant, IsConstantCell, IsConstantInstance, IsLeaf, IsLocallyConnected, constant_node, width_of}
use Rattle.net_hier.specs.Constants.{usual_names}
use Rattle.net_hier.specs.Example.{output, tied_cell, tied_design, translated_cell, translated_design, untied_cell, untied_design, zero_cell}
use Rattle.net_hier.specs.Design.{IsCell}
use Rattle.net_hier.specs.Facts.{HasNetValue, HasProperty, SameValues}
use Rattle.net_hier.specs.SameCells.{HasConstantCells, IsPartner, NeedsConstant, SameCell, SameCells, stand_in}
use Rattle.std.proofs.lemmas.Option.{slice_get_within}
use Rattle.net_hier.specs.Flat.{At, Constant, FlatLink, FlatNode, FlatStep, IsConnected, IsTerminal, by_constant, by_join, by_pin, of_constant, of_top}
use Rattle.net_hier.specs.Paths.{CellAt, Path}
use Rattle.net_hier.specs.SameDesign.{SameDesign}
use Rattle.net_hier.proofs.PathLaws.{same_element}
use Rattle.net_hier.proofs.Pairs.{no_element}
use Rattle.net_graph.proofs.WalkLaws.{linked_along, linked_by, linked_itself, linked_alone, linked_back}
use Rattle.net_hier.proofs.Near.{local_turn}
use Rattle.net_graph.specs.Walks.{Leads}
use Rattle.net_hier.specs.declared.cells.HCell.{HCell}
use Rattle.net_hier.specs.declared.cells.HNet.{HNet}
use Rattle.net_hier.specs.declared.cells.HPort.{HPort}
use Rattle.net_hier.specs.declared.nodes.Join.{Join}
use Rattle.net_hier.specs.declared.nodes.Node.{Node}
use Rattle.net_hier.specs.declared.nodes.Node.TheVariants.{Port, Pin, Net, Zero, One}

-- what each join keeps, each local connection keeps
kept_along : {C : Type 0} (cell : HCell) (f : Node → C) → ((join : Join) → Contains cell.joins join → f join.a ≡ f join.b) → (x : Node) (places : List Node) (y : Node) → Leads (HasLocalStep cell) x places y → f x ≡ f y
kept_along cell f each x [] y lead = ap f lead
kept_along cell f each x (next ∷ rest) y lead =
    let s : HasLocalStep cell x next = lead.0 in
    let e : f s.join.a ≡ f s.join.b = each s.join s.is_join in
    let h : f x ≡ f next = elim s.has_both [ inl p ↦ ap f (sym p.0) ∙ (e ∙ ap f p.1) | inr p ↦ ap f (sym p.1) ∙ (sym e ∙ ap f p.0) ] in
    h ∙ kept_along cell f each next rest y lead.1

pub kept : {C : Type 0} (cell : HCell) (f : Node → C) → ((join : Join) → Contains cell.joins join → f join.a ≡ f join.b) → {x y : Node} → IsLocallyConnected cell x y → f x ≡ f y
kept cell f each {x = x} {y = y} link = kept_along cell f each x link.places y link.lead

abbrev the_added : Bool → Option ℕ
the_added false = Some 0
the_added true = None

-- the local classes
abbrev side : Node → Bool
side (Port a b) = true
side (Pin i a b) = true
side (Net n) = true
side Zero = true
side One = false

in_one_at : (j a : Join) (k : ℕ) → k < 1 → slice_index_or (a ∷ []) k j ≡ j → j ≡ a
in_one_at j a zero h e = sym e
in_one_at j a (suc k) h e = absurd (omega arith)

in_one : (j a : Join) → Contains (a ∷ []) j → j ≡ a
in_one j a h = in_one_at j a h.0 h.1 h.2

in_two_at : (j a b : Join) (k : ℕ) → k < 2 → slice_index_or (a ∷ b ∷ []) k j ≡ j → (j ≡ a) ⊎ (j ≡ b)
in_two_at j a b zero h e = inl (sym e)
in_two_at j a b (suc zero) h e = inr (sym e)
in_two_at j a b (suc (suc k)) h e = absurd (omega arith)

in_two : (j a b : Join) → Contains (a ∷ b ∷ []) j → (j ≡ a) ⊎ (j ≡ b)
in_two j a b h = in_two_at j a b h.0 h.1 h.2

only_bit : (p : HPort) (port bit : ℕ) (x : HPort) → slice_get (p ∷ []) port ≡ Some x → bit < width_of x.range → p.range ≡ None → (port ≡ 0) × (bit ≡ 0)
only_bit p zero bit x e h r =
    let same : x ≡ p = cc in
    let lt : bit < 1 = subst (λ w. bit < width_of w) (ap (λ q. q.range) same ∙ r) h in
    (refl, omega arith)
only_bit p (suc k) bit x e h r = absurd (cc)

-- the nodes of the tied_cell cell that are no nets
kinds : (P : Node → Type 0) → P (Port 0 0) → P Zero → P One → (x : Node) → IsBitOrConstant tied_design.cells tied_cell x → P x
kinds P port zero_case one_case (Port p b) h =
    let e : (p ≡ 0) × (b ≡ 0) = only_bit (output 4) p b h.the_port h.is_there h.within refl in
    subst₂ (λ q c. P (Port q c)) (sym e.0) (sym e.1) port
kinds P port zero_case one_case (Pin i p b) h = absurd (no_element [] i h.the_instance refl h.is_there)
kinds P port zero_case one_case (Net n) h = absurd h
kinds P port zero_case one_case Zero h = zero_case
kinds P port zero_case one_case One h = one_case

port_step : HasLocalStep tied_cell (Port 0 0) Zero
port_step = record { join = record { a = Port 0 0; b = Zero }; is_join = (0, omega arith, refl); has_both = inl (refl, refl) }

there_step : HasLocalStep translated_cell (Net 0) (Port 0 0)
there_step = record { join = record { a = Net 0; b = Port 0 0 }; is_join = (0, omega arith, refl); has_both = inl (refl, refl) }

pin_step : HasLocalStep translated_cell (Net 0) (Pin 0 0 0)
pin_step = record { join = record { a = Net 0; b = Pin 0 0 0 }; is_join = (1, omega arith, refl); has_both = inl (refl, refl) }

sides_here : (x y : Node) → IsLocallyConnected tied_cell x y → side x ≡ side y
sides_here x y link = kept tied_cell side (λ j h. let e : j ≡ record { a = Port 0 0; b = Zero } = in_one j (record { a = Port 0 0; b = Zero }) h in ap (λ w. side w.a) e ∙ ap (λ w. side w.b) (sym e)) link

sides_there : (x y : Node) → IsLocallyConnected translated_cell x y → side x ≡ side y
sides_there x y link = kept translated_cell side (λ j h. elim (in_two j (record { a = Net 0; b = Port 0 0 }) (record { a = Net 0; b = Pin 0 0 0 }) h) [
  | inl e ↦ ap (λ w. side w.a) e ∙ ap (λ w. side w.b) (sym e)
  | inr e ↦ ap (λ w. side w.a) e ∙ ap (λ w. side w.b) (sym e)
]) link

to_zero : (x : Node) → IsBitOrConstant tied_design.cells tied_cell x → side x ≡ true → IsLocallyConnected tied_cell x Zero
to_zero = kinds (λ x. side x ≡ true → IsLocallyConnected tied_cell x Zero) (λ e. linked_by port_step) (λ e. linked_itself (HasLocalStep tied_cell) Zero) (λ e. absurd (cc))

to_pin : (x : Node) → IsBitOrConstant tied_design.cells tied_cell x → side x ≡ true → IsLocallyConnected translated_cell (stand_in the_added x) (Pin 0 0 0)
to_pin = kinds (λ x. side x ≡ true → IsLocallyConnected translated_cell (stand_in the_added x) (Pin 0 0 0))
    (λ e. linked_along (linked_by (local_turn there_step)) (linked_by pin_step)) (λ e. linked_itself (HasLocalStep translated_cell) (Pin 0 0 0)) (λ e. absurd (cc))

is_one : (x : Node) → side x ≡ false → x ≡ One
is_one (Port p b) e = absurd (cc)
is_one (Pin i p b) e = absurd (cc)
is_one (Net n) e = absurd (cc)
is_one Zero e = absurd (cc)
is_one One e = refl

side_stays : (x : Node) → side (stand_in the_added x) ≡ side x
side_stays (Port p b) = refl
side_stays (Pin i p b) = refl
side_stays (Net n) = refl
side_stays Zero = refl
side_stays One = refl

turned : (cell : HCell) {x y : Node} → IsLocallyConnected cell x y → IsLocallyConnected cell y x
turned cell link = linked_back (HasLocalStep cell) (λ a b s. local_turn s) link

forth_by : (s : Bool) (x y : Node) → side x ≡ s → side y ≡ s → IsBitOrConstant tied_design.cells tied_cell x → IsBitOrConstant tied_design.cells tied_cell y → IsLocallyConnected translated_cell (stand_in the_added x) (stand_in the_added y) × IsLocallyConnected tied_cell x y
forth_by true x y ex ey hx hy = (linked_along (to_pin x hx ex) (turned translated_cell (to_pin y hy ey)), linked_along (to_zero x hx ex) (turned tied_cell (to_zero y hy ey)))
forth_by false x y ex ey hx hy =
    let e : x ≡ y = is_one x ex ∙ sym (is_one y ey) in
    (subst (λ w. IsLocallyConnected translated_cell (stand_in the_added x) (stand_in the_added w)) e (linked_itself (HasLocalStep translated_cell) (stand_in the_added x)), subst (IsLocallyConnected tied_cell x) e (linked_itself (HasLocalStep tied_cell) x))

gnd_leaf : IsLeaf zero_cell
gnd_leaf = record { no_instances = refl; apart = λ x y hx hy link. linked_alone (HasLocalStep zero_cell) x (λ z s. none_there s.join s.is_join) link }
  where
    none_there : (j : Join) → ¬ Contains [] j
    none_there j h = omega (arith, h.1)

gnd_zero : IsConstantCell usual_names false zero_cell
gnd_zero = record { is_leaf = gnd_leaf; is_named = refl; port = output 71; only_port = refl; port_named = refl; is_scalar = refl; is_output = refl }

needed : (v : Bool) → IsSome (the_added v) ↔ NeedsConstant tied_design.cells tied_cell v
needed false = (
  λ h. record {
    node = Port 0 0;
    is_bit = record { the_port = output 4; is_there = refl; within = omega arith };
    is_other = λ e. cc;
    is_connected = turned tied_cell (linked_by port_step);
  },
  λ h. refl,
)
needed true = (λ h. absurd (cc), λ h. absurd (h.is_other (is_one h.node (sym (sides_here One h.node h.is_connected)))))

added_there : (v : Bool) (place : ℕ) → the_added v ≡ Some place → (0 ≤ place) × IsConstantInstance usual_names translated_design.cells translated_cell v place
added_there false place e =
    let p : 0 ≡ place = cc in
    (omega arith, subst (IsConstantInstance usual_names translated_design.cells translated_cell false) p (record { the_instance = record { name = 1 ∷ []; cell = 0; props = [] }; is_there = refl; below = zero_cell; is_below = refl; is_constant = gnd_zero }))
added_there true place e = absurd (cc)

no_net : (x : Node) (name : List ℕ) (value : PropValue) → ¬ HasNetValue translated_cell x name value
no_net x name value h = no_prop h.number h.net h.gives.is_there h.gives.has_property
  where
    no_prop : (number : ℕ) (net : HNet) → slice_get translated_cell.nets number ≡ Some net → ¬ HasProperty net.props name
    no_prop zero net e p = let q : net ≡ record { name = 4 ∷ []; props = [] } = cc in subst (λ w. HasProperty w.props name) q p
    no_prop (suc k) net e p = absurd (cc)

same_tied : SameCell usual_names tied_design translated_design (Some 1) 0 1 tied_cell translated_cell
same_tied = record {
  same_name = refl;
  same_ports = refl;
  same_props = λ name value. (λ h. h, λ h. h);
  same_port_props = λ place port counterpart e f.
      let p : port ≡ counterpart = same_element tied_cell.ports place port counterpart e f in
      subst (λ w. SameValues port.props w.props) p (λ name value. (λ h. h, λ h. h));
  same_instances = λ place instance h. absurd (no_element [] place instance refl h);
  added = the_added;
  as_needed = needed;
  added_after = added_there;
  added_alone = λ place le lt. let p : 0 ≡ place = omega arith in (false, ap Some p);
  zero_first = λ a b e f. cc;
  same_connection = λ x y hx hy. (
    λ link. (forth_by (side x) x y refl (sym (sides_here x y link)) hx hy).0,
    λ link. (forth_by (side x) x y refl (sym (side_stays y) ∙ (sym (sides_there (stand_in the_added x) (stand_in the_added y) link) ∙ side_stays x)) hx hy).1,
  );
  same_port_nets = λ port bit b name value. (λ h. absurd (no_element [] h.number h.net refl h.gives.is_there), λ h. absurd (no_net (Port port bit) name value h));
  same_pin_nets = λ i port bit b name value. (λ h. absurd (no_element [] h.number h.net refl h.gives.is_there), λ h. absurd (no_net (Pin i port bit) name value h));
}

-- the whole premise of the law holds of the two
same_cells_at : (number onumber : ℕ) (cell : HCell) → IsPartner tied_design (Some 1) number onumber → IsCell tied_design.cells number cell → (partner : HCell) × IsCell translated_design.cells onumber partner × SameCell usual_names tied_design translated_design (Some 1) number onumber cell partner
same_cells_at (suc number) onumber cell p e = absurd (cc)
same_cells_at zero onumber cell p e =
    let c : tied_cell ≡ cell = cc in
    let lt : p.0 < 1 = slice_get_within (0 ∷ []) p.0 0 p.1 in
    let o : 1 ≡ onumber = omega (arith, p.2) in
    subst₂ (λ m w. (partner : HCell) × IsCell translated_design.cells m partner × SameCell usual_names tied_design translated_design (Some 1) 0 m w partner) o c (translated_cell, refl, same_tied)

net_free : (v : Bool) → Net 0 ≢ constant_node v
net_free false e = cc
net_free true e = cc

port_free : (v : Bool) → Port 0 0 ≢ constant_node v
port_free false e = cc
port_free true e = cc

pin_free : (v : Bool) → Pin 0 0 0 ≢ constant_node v
pin_free false e = cc
pin_free true e = cc

no_constant_joined : (number : ℕ) (cell : HCell) (join : Join) (v : Bool) → IsCell translated_design.cells number cell → Contains cell.joins join → (join.a ≢ constant_node v) × (join.b ≢ constant_node v)
no_constant_joined zero cell join v e h = let c : cell ≡ zero_cell = cc in let k : Contains zero_cell.joins join = subst (λ w. Contains w.joins join) c h in absurd (omega (arith, k.1))
no_constant_joined (suc zero) cell join v e h =
    let c : cell ≡ translated_cell = cc in
    let k : Contains translated_cell.joins join = subst (λ w. Contains w.joins join) c h in
    elim (in_two join (record { a = Net 0; b = Port 0 0 }) (record { a = Net 0; b = Pin 0 0 0 }) k) [
      | inl f ↦ (subst (λ w. w.a ≢ constant_node v) (sym f) (net_free v), subst (λ w. w.b ≢ constant_node v) (sym f) (port_free v))
      | inr f ↦ (subst (λ w. w.a ≢ constant_node v) (sym f) (net_free v), subst (λ w. w.b ≢ constant_node v) (sym f) (pin_free v))
    ]
no_constant_joined (suc (suc number)) cell join v e h = absurd (cc)

has_gnd : HasConstantCells usual_names translated_design 1
has_gnd = record {
  first = λ number cell lt e.
      let z : 0 ≡ number = omega arith in
      let c : zero_cell ≡ cell = same_element translated_design.cells number zero_cell cell (subst (λ m. IsCell translated_design.cells m zero_cell) z refl) e in
      (false, subst (IsConstantCell usual_names false) c gnd_zero);
  once = λ v a b c d la lb ea eb ca cb. omega arith;
  no_join = no_constant_joined;
}

pub same_cells_here : SameCells usual_names tied_design translated_design (Some 1)
same_cells_here = record { first = (omega arith, has_gnd); no_more = refl; same_top = (0, refl, refl); same_cells = same_cells_at }

-- a design that has untied_design the join is another design
only_cell : (path : Path) (cell : HCell) → CellAt untied_design path cell → untied_cell ≡ cell
only_cell path cell at =
    let lt : at.number < 1 = slice_get_within (untied_cell ∷ []) at.number cell at.is_cell in
    let z : 0 ≡ at.number = omega arith in
    same_element (untied_cell ∷ []) at.number untied_cell cell (subst (λ m. slice_get (untied_cell ∷ []) m ≡ Some untied_cell) z refl) at.is_cell

no_link : (x y : FlatNode) → ¬ FlatLink usual_names untied_design x y
no_link x y (by_join {path = path} {cell = cell} at step) = let e : untied_cell ≡ cell = only_cell path cell at in let c : Contains untied_cell.joins step.join = subst (λ w. Contains w.joins step.join) (sym e) step.is_join in omega (arith, c.1)
no_link x y (by_pin {path = path} {cell = cell} {instance = i} at pin) = let e : untied_cell ≡ cell = only_cell path cell at in no_element [] i pin.the_instance refl (subst (λ w. slice_get w.instances i ≡ Some pin.the_instance) (sym e) pin.is_there)
no_link x y (by_constant {path = path} {cell = cell} {instance = i} at c) = let e : untied_cell ≡ cell = only_cell path cell at in no_element [] i c.the_instance refl (subst (λ w. slice_get w.instances i ≡ Some c.the_instance) (sym e) c.is_there)

pub other_design : ¬ SameDesign usual_names tied_design untied_design
other_design same =
    let port : IsTerminal usual_names tied_design (At [] (Port 0 0)) = of_top {cell = tied_cell} refl (record { the_port = output 4; is_there = refl; within = omega arith }) in
    let here_linked : IsConnected usual_names tied_design (At [] (Port 0 0)) (Constant false) = linked_by (inl (by_join {path = []} {cell = tied_cell} {x = Port 0 0} {y = Zero} (record { number = 0; leads = refl; is_cell = refl }) port_step)) in
    let link : IsConnected usual_names untied_design (At [] (Port 0 0)) (Constant false) = (same.same_connection (At [] (Port 0 0)) (Constant false) port (of_constant false)).0 here_linked in
    let e : At [] (Port 0 0) ≡ Constant false = linked_alone (FlatStep usual_names untied_design) (At [] (Port 0 0)) (λ y step. elim step [ inl l ↦ no_link (At [] (Port 0 0)) y l | inr r ↦ no_link y (At [] (Port 0 0)) r ]) link in
    cc
