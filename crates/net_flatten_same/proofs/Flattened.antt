-- the cells and the instances of a flattened design
use Rattle.std.proofs.Common.{◌≡◌, ◌⊎◌, ℕ, ◌<◌, inl, inr, List, [], ◌∷◌, ◌++◌, refl, sym, ◌∙◌, ap, subst, subst₂, slice_get, Some, cond, length, map, arith}
use Rattle.std.specs.Prelude.{Contains}
use Rattle.std.proofs.lemmas.Bool.Decides.{Decides-eqb}
use Rattle.std.proofs.lemmas.List.{length-map}
use Rattle.std.proofs.lemmas.Option.{get_or_from_slice_get, slice_get_within}
use Rattle.net_graph.proofs.OrderLaws.{front_or_last, get_front, get_last}
use Rattle.net_graph.proofs.WalkLaws.{linked_alone}
use Rattle.net_hier.specs.Cells.{HasLocalStep, IsAnyConstantCell, IsLeaf}
use Rattle.net_hier.specs.Constants.{ConstantNames}
use Rattle.net_hier.specs.Design.{Design, IsCell}
use Rattle.net_hier.specs.Facts.{SameValues, cell_props}
use Rattle.net_hier.specs.Paths.{Path, CellAt, HasInstance, LeadsTo}
use Rattle.net_hier.specs.SameDesign.{signature_of}
use Rattle.net_hier.specs.declared.cells.HCell.{HCell}
use Rattle.net_hier.specs.declared.cells.HInst.{HInst}
use Rattle.net_hier.specs.declared.cells.HProp.{HProp}
use Rattle.net_hier.proofs.Pairs.{no_element}
use Rattle.net_hier.proofs.PathLaws.{same_element}
use Rattle.flat_numbers.specs.Numbers.{CellOf}
use Rattle.flat_numbers.specs.declared.spots.Spot.{Spot}
use Rattle.flat_classes.proofs.KindLaws.{nothing_in}
use Rattle.flat_numbers.proofs.Linking.{contains_there}
use Rattle.net_flatten_rules.specs.FlatDesign.{cell_at, cell_or_none, stub, flat_top, leaf_instance, no_cell, place_in, props_of}
use Rattle.net_flatten_rules.specs.Joined.{joined}
use Rattle.net_flatten_rules.specs.SameFlat.{InnerLeaf, IsTop, SameInterface, SameLeaf, TopInstance}
use Rattle.net_flatten_same.proofs.Leaves.{Flattening, LeafFor, LeafSpot, SpotFor, leaf_for, leaf_spot, leaves_of, numbers_of, place_inside, spot_for}
use Rattle.net_flatten_same.proofs.Lists.{map_at, mapped_at}

-- ---- a cell with its name, ports and properties alone
pub same_itself : (props : List HProp) → SameValues props props
same_itself props name value = (λ h. h, λ h. h)

pub copied_interface : (cell other : HCell) → other.ports ≡ cell.ports → SameInterface cell other
copied_interface cell other e = record {
  same_ports = ap (map signature_of) (sym e);
  same_port_props = λ place port counterpart there othere.
      let p : port ≡ counterpart = same_element cell.ports place port counterpart there (subst (λ ps. slice_get ps place ≡ Some counterpart) e othere) in
      subst (λ t. SameValues port.props t.props) p (same_itself port.props);
}

pub stub_leaf : (cell : HCell) → IsLeaf (stub cell)
stub_leaf cell = record {
  no_instances = refl;
  apart = λ x y hx hy link. linked_alone (HasLocalStep (stub cell)) x (λ z step. nothing_in step.join step.is_join) link;
}

pub stub_constant : (names : ConstantNames) (cell : HCell) → IsLeaf cell → IsAnyConstantCell names (stub cell) → IsAnyConstantCell names cell
stub_constant names cell leaf (value, c) = (value, record { is_leaf = leaf; is_named = c.is_named; port = c.port; only_port = c.only_port; port_named = c.port_named; is_scalar = c.is_scalar; is_output = c.is_output })

-- the top's properties are followed by the design's
pub top_props : (design : Design) (top : HCell) → cell_props design design.top top ≡ top.props ++ design.props
top_props design top = ap (λ b. cond b (top.props ++ design.props) top.props) ((Decides-eqb design.top design.top).1 refl)

one_cell_of : (cells : List HCell) (spots : List Spot) (number : ℕ) (a b : HCell) → CellOf cells spots number a → CellOf cells spots number b → a ≡ b
one_cell_of cells spots number a b of_a of_b =
    let e : of_a.spot ≡ of_b.spot = same_element spots number of_a.spot of_b.spot of_a.is_spot of_b.is_spot in
    same_element cells of_b.spot.cell a b (subst (λ (s : Spot). IsCell cells s.cell a) e of_a.is_cell) of_b.is_cell

module _ (names : ConstantNames) (design : Design) (f : Flattening names design) (order : List ℕ) where
  abbrev pub the_top : HCell
  the_top = flat_top design f.paths f.flat

  abbrev pub front : List HCell
  front = map (λ number. stub (cell_or_none design.cells number)) (numbers_of design f.flat)

  -- the flattened design, with any order of its cells
  abbrev pub other : Design
  other = record { cells = front ++ the_top ∷ []; top = length (numbers_of design f.flat); props = design.props; order = order }

  abbrev pub instance_for : ℕ → HInst
  instance_for leaf = leaf_instance design.cells f.flat.spots f.paths (numbers_of design f.flat) leaf

  front_length : length front ≡ length (numbers_of design f.flat)
  front_length = length-map (numbers_of design f.flat) (λ number. stub (cell_or_none design.cells number))

  pub top_there : IsTop other the_top
  top_there = subst (λ n. slice_get (front ++ the_top ∷ []) n ≡ Some the_top) front_length (get_last front the_top)

  pub one_top : (cell : HCell) → IsTop other cell → cell ≡ the_top
  one_top cell is = same_element other.cells other.top cell the_top is top_there

  front_there : (place number : ℕ) → slice_get (numbers_of design f.flat) place ≡ Some number → IsCell other.cells place (stub (cell_or_none design.cells number))
  front_there place number e = get_front front (the_top ∷ []) place (stub (cell_or_none design.cells number)) (map_at (λ n. stub (cell_or_none design.cells n)) (numbers_of design f.flat) place number e)

  -- a cell is the top, or has neither instances nor joins
  cell_is : (number : ℕ) (cell : HCell) → IsCell other.cells number cell → ((number ≡ length (numbers_of design f.flat)) × (cell ≡ the_top)) ⊎ ((cell.instances ≡ []) × (cell.joins ≡ []))
  cell_is number cell is = elim (front_or_last front the_top number cell is) [
    | inl there ↦
        let (n, listed, e) = mapped_at (λ m. stub (cell_or_none design.cells m)) (numbers_of design f.flat) number cell there in
        inr (ap (λ (c : HCell). c.instances) (sym e), ap (λ (c : HCell). c.joins) (sym e))
    | inr last ↦ inl (last.0 ∙ front_length, sym last.1)
  ]

  pub instance_there : (place leaf : ℕ) → slice_get (leaves_of f.flat) place ≡ Some leaf → slice_get the_top.instances place ≡ Some (instance_for leaf)
  instance_there place leaf is = map_at instance_for (leaves_of f.flat) place leaf is

  -- the instance of a leaf is of the stub of the leaf's cell
  pub leaf_top : (place leaf : ℕ) → slice_get (leaves_of f.flat) place ≡ Some leaf → (h : LeafSpot names design f leaf) → TopInstance other place (instance_for leaf) (stub h.spot.cell)
  leaf_top place leaf is h = record {
    top = the_top;
    is_top = top_there;
    is_there = instance_there place leaf is;
    is_of = subst (λ c. IsCell other.cells (place_in (numbers_of design f.flat) (cell_at f.flat.spots leaf)) (stub c)) h.has_cell
        (front_there (place_in (numbers_of design f.flat) (cell_at f.flat.spots leaf)) (cell_at f.flat.spots leaf) h.has_number);
  }

  -- an instance of the top is that of a leaf
  pub record FromTop (place : ℕ) (counterpart : HInst) (partner : HCell) : Type 0 where
    pub leaf : ℕ
    pub is_there : slice_get (leaves_of f.flat) place ≡ Some leaf
    pub is_leaf : Contains (leaves_of f.flat) leaf
    pub counterpart_is : counterpart ≡ instance_for leaf
    pub at : LeafSpot names design f leaf
    pub partner_is : partner ≡ stub at.spot.cell

  pub from_top : (place : ℕ) (counterpart : HInst) (partner : HCell) → TopInstance other place counterpart partner → FromTop place counterpart partner
  from_top place counterpart partner t =
      let there : slice_get the_top.instances place ≡ Some counterpart = subst (λ c. slice_get c.instances place ≡ Some counterpart) (one_top t.top t.is_top) t.is_there in
      let (leaf, is, e) = mapped_at instance_for (leaves_of f.flat) place counterpart there in
      let c : Contains (leaves_of f.flat) leaf = contains_there (leaves_of f.flat) place leaf is in
      let h : LeafSpot names design f leaf = leaf_spot names design f leaf c in
      record {
        leaf = leaf;
        is_there = is;
        is_leaf = c;
        counterpart_is = sym e;
        at = h;
        partner_is = same_element other.cells (instance_for leaf).cell partner (stub h.spot.cell) (subst (λ (i : HInst). IsCell other.cells i.cell partner) (sym e) t.is_of) (leaf_top place leaf is h).is_of;
      }

  -- the top is no cell of an instance
  top_below : (outer : ℕ) (name : List ℕ) (number : ℕ) → HasInstance other.cells outer name number → number < length (numbers_of design f.flat)
  top_below outer name number i = elim (cell_is outer i.cell i.is_cell) [
    | inl at ↦
        let there : slice_get the_top.instances i.number ≡ Some i.instance = subst (λ c. slice_get c.instances i.number ≡ Some i.instance) at.1 i.is_there in
        let (leaf, is, e) = mapped_at instance_for (leaves_of f.flat) i.number i.instance there in
        let h : LeafSpot names design f leaf = leaf_spot names design f leaf (contains_there (leaves_of f.flat) i.number leaf is) in
        let lt = slice_get_within (numbers_of design f.flat) (place_in (numbers_of design f.flat) (cell_at f.flat.spots leaf)) (cell_at f.flat.spots leaf) h.has_number in
        subst (λ n. n < length (numbers_of design f.flat)) (ap (λ (w : HInst). w.cell) e ∙ i.is_of) lt
    | inr bare ↦ absurd (no_element i.cell.instances i.number i.instance bare.0 i.is_there)
  ]

  -- only the empty path leads to a cell with instances or joins
  pub at_is : (path : Path) (cell : HCell) → CellAt other path cell → ((path ≡ []) × (cell ≡ the_top)) ⊎ ((cell.instances ≡ []) × (cell.joins ≡ []))
  at_is [] cell at = inl (refl, one_top cell (subst (λ n. IsCell other.cells n cell) at.leads at.is_cell))
  at_is (name ∷ outer) cell at = elim (cell_is at.number cell at.is_cell) [
    | inl here ↦
        let leads : LeadsTo other.cells other.top (name ∷ outer) at.number = at.leads in
        let lt : at.number < length (numbers_of design f.flat) = top_below leads.0 name at.number leads.2 in
        let e : at.number ≡ length (numbers_of design f.flat) = here.0 in
        absurd (omega (arith, lt, e))
    | inr bare ↦ inr bare
  ]

  -- each leaf below the top has an instance that stands for it
  pub has_leaves : (path : Path) (instance : HInst) (cell : HCell) → InnerLeaf names design path instance cell →
      (place : ℕ) × (counterpart : HInst) × (partner : HCell) × TopInstance other place counterpart partner × SameLeaf names path instance cell counterpart partner
  has_leaves path instance cell inner =
      let s : SpotFor names design f path instance cell = spot_for names design f path instance cell inner in
      let place : ℕ = place_in (leaves_of f.flat) s.leaf in
      let h : LeafSpot names design f s.leaf = leaf_spot names design f s.leaf s.is_leaf in
      let e : h.spot.cell ≡ cell = one_cell_of design.cells f.flat.spots s.leaf h.spot.cell cell h.spot.of_cell s.of_cell in
      let t : TopInstance other place (instance_for s.leaf) (stub h.spot.cell) = leaf_top place s.leaf (place_inside names design f s.leaf s.is_leaf) h in (
        place,
        instance_for s.leaf,
        stub cell,
        subst (λ c. TopInstance other place (instance_for s.leaf) (stub c)) e t,
        record {
          same_name = ap joined s.path_is_listed;
          same_cell = refl;
          is_leaf = stub_leaf cell;
          no_constant = λ c. inner.leaf.no_constant (stub_constant names cell inner.leaf.is_leaf c);
          same_interface = copied_interface cell (stub cell) refl;
          same_props = same_itself cell.props;
          same_instance = subst (λ o. SameValues instance.props (props_of o)) (sym s.is_instance) (same_itself instance.props);
        },
      )

  -- each instance stands for a leaf
  pub no_more : (place : ℕ) (counterpart : HInst) (partner : HCell) → TopInstance other place counterpart partner → ¬ IsAnyConstantCell names partner →
      IsLeaf partner × (path : Path) × (instance : HInst) × (cell : HCell) × InnerLeaf names design path instance cell × (counterpart.name ≡ joined path)
  no_more place counterpart partner t none =
      let r : FromTop place counterpart partner = from_top place counterpart partner t in
      let l : LeafFor names design f r.leaf = leaf_for names design f r.leaf r.is_leaf in
      (subst IsLeaf (sym r.partner_is) (stub_leaf r.at.spot.cell), l.path, l.instance, l.cell, l.inner_leaf, ap (λ (i : HInst). i.name) r.counterpart_is ∙ ap joined l.path_is_listed)

  -- the two tops
  top_is : (top : HCell) → IsTop design top → cell_or_none design.cells design.top ≡ top
  top_is top is = get_or_from_slice_get design.cells design.top top no_cell is

  top_from : (P : HCell → HCell → Type 0) → P (cell_or_none design.cells design.top) the_top → (top otop : HCell) → IsTop design top → IsTop other otop → P top otop
  top_from P h top otop is ois = subst₂ P (top_is top is) (sym (one_top otop ois)) h

  pub same_name : (top otop : HCell) → IsTop design top → IsTop other otop → top.name ≡ otop.name
  same_name = top_from (λ a b. a.name ≡ b.name) refl

  pub same_top : (top otop : HCell) → IsTop design top → IsTop other otop → SameInterface top otop
  same_top = top_from SameInterface (copied_interface (cell_or_none design.cells design.top) the_top refl)

  pub same_top_props : (top otop : HCell) → IsTop design top → IsTop other otop → SameValues (cell_props design design.top top) (cell_props other other.top otop)
  same_top_props = top_from (λ a b. SameValues (cell_props design design.top a) (cell_props other other.top b))
      (subst₂ SameValues (sym (top_props design (cell_or_none design.cells design.top))) (sym (top_props other the_top)) (same_itself ((cell_or_none design.cells design.top).props ++ design.props)))
