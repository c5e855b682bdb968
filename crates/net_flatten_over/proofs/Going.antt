-- what is the same design as a flattened one, and whose top has no instances but leaves, is flat too
use Rattle.std.proofs.Common.{◌≡◌, ℕ, List, [], ◌∷◌, Bool, refl, sym, ◌∙◌, subst, subst₂}
use Rattle.net_hier.specs.Cells.{IsAnyConstantCell, IsConstantInstance, IsLeaf}
use Rattle.net_hier.specs.Constants.{ConstantNames}
use Rattle.net_hier.specs.Design.{Design, IsCell}
use Rattle.net_hier.specs.Facts.{IsConstantPath, SameValues, cell_props}
use Rattle.net_hier.specs.Flat.{FlatNode, At, IsTerminal, of_constant, of_top, of_leaf}
use Rattle.net_hier.specs.Paths.{Path, CellAt, HasInstance, LeadsTo, LeafAt}
use Rattle.net_hier.specs.SameDesign.{HasLeaf, SameDesign}
use Rattle.net_hier.specs.declared.cells.HCell.{HCell}
use Rattle.net_hier.specs.declared.cells.HInst.{HInst}
use Rattle.net_hier.specs.declared.nodes.Node.TheVariants.{Port}
use Rattle.net_hier.proofs.Pairs.{port_bit_same}
use Rattle.net_hier.proofs.PathLaws.{element_there, same_element}
use Rattle.net_flatten_rules.specs.Joined.{joined}
use Rattle.net_flatten_rules.specs.SameFlat.{InnerLeaf, IsTop, Partner, constant, top_bit, leaf_bit, SameInterface, SameFlat, SameLeaf, TopInstance, flat_path}
use Rattle.net_flatten_over.specs.Over.{HasLeavesAlone, HasOwnNames}
use Rattle.net_flatten_over.proofs.Values.{at_instance, at_top, interface_along, leaf_props, no_constant_path, no_constant_top, same_along, same_cell_values, same_interface, same_instance_values}

-- the instance of the top to which a path of one name leads
pub record FoundInstance (design : Design) (name : List ℕ) (cell : HCell) : Type 0 where
  pub place : ℕ
  pub instance : HInst
  pub is : TopInstance design place instance cell
  pub is_named : instance.name ≡ name

pub found_instance : (design : Design) (name : List ℕ) (cell : HCell) → CellAt design (name ∷ []) cell → FoundInstance design name cell
found_instance design name cell at =
    let leads : LeadsTo design.cells design.top (name ∷ []) at.number = at.leads in
    let i : HasInstance design.cells leads.0 name at.number = leads.2 in
    record {
      place = i.number;
      instance = i.instance;
      is = record { top = i.cell; is_top = subst (λ n. IsCell design.cells n i.cell) leads.1 i.is_cell; is_there = i.is_there; is_of = subst (λ n. IsCell design.cells n cell) (sym i.is_of) at.is_cell };
      is_named = i.is_named;
    }

-- an instance of a leaf that stands for no constant is none of a constant cell
no_constant_instance : (names : ConstantNames) (design : Design) (place : ℕ) (instance : HInst) (cell : HCell) (t : TopInstance design place instance cell) → ¬ IsAnyConstantCell names cell →
    (value : Bool) → ¬ IsConstantInstance names design.cells t.top value place
no_constant_instance names design place instance cell t none value c =
    let p : c.the_instance ≡ instance = same_element t.top.instances place c.the_instance instance c.is_there t.is_there in
    let e : c.below ≡ cell = same_element design.cells instance.cell c.below cell (subst (λ i. IsCell design.cells i.cell c.below) p c.is_below) t.is_of in
    none (subst (IsAnyConstantCell names) e (value, c.is_constant))

module _ (names : ConstantNames) (design flat other : Design) (own : HasOwnNames flat) (oown : HasOwnNames other) (same : SameFlat names design flat) (goes : SameDesign names flat other) (alone : HasLeavesAlone other) where
  -- an instance of the flattened top and the one of the other top that has its name
  record LeafPair (place : ℕ) (counterpart : HInst) (partner : HCell) : Type 0 where
    oplace : ℕ
    ocounterpart : HInst
    opartner : HCell
    is_other : TopInstance other oplace ocounterpart opartner
    same_name : ocounterpart.name ≡ counterpart.name
    same_cell : partner.name ≡ opartner.name
    is_leaf : IsLeaf opartner
    no_constant : ¬ IsAnyConstantCell names opartner

  module _ (place : ℕ) (counterpart : HInst) (partner : HCell) (t : TopInstance flat place counterpart partner) (leaf : IsLeaf partner) (none : ¬ IsAnyConstantCell names partner) where
    here : LeafAt names flat (counterpart.name ∷ []) partner
    here = record { at = at_instance flat place counterpart partner t counterpart.name refl; is_leaf = leaf; no_constant = none }

    leaf_pair : LeafPair place counterpart partner
    leaf_pair =
        let h : HasLeaf names other (counterpart.name ∷ []) partner.name = (goes.same_leaves (counterpart.name ∷ []) partner.name).0 (record { cell = partner; is_leaf = here; is_named = refl }) in
        let f : FoundInstance other counterpart.name h.cell = found_instance other counterpart.name h.cell h.is_leaf.at in
        record {
          oplace = f.place;
          ocounterpart = f.instance;
          opartner = h.cell;
          is_other = f.is;
          same_name = f.is_named;
          same_cell = sym h.is_named;
          is_leaf = h.is_leaf.is_leaf;
          no_constant = h.is_leaf.no_constant;
        }

    module _ (p : LeafPair place counterpart partner) where
      there : LeafAt names other (counterpart.name ∷ []) p.opartner
      there = record { at = at_instance other p.oplace p.ocounterpart p.opartner p.is_other counterpart.name p.same_name; is_leaf = p.is_leaf; no_constant = p.no_constant }

      free : ¬ IsConstantPath names flat (counterpart.name ∷ [])
      free = no_constant_path names flat own.has_paths (counterpart.name ∷ []) partner here.at none

      ofree : ¬ IsConstantPath names other (counterpart.name ∷ [])
      ofree = no_constant_path names other oown.has_paths (counterpart.name ∷ []) p.opartner there.at p.no_constant

      pair_interface : SameInterface partner p.opartner
      pair_interface = same_interface names flat other own.has_paths oown.has_paths goes.same_facts (counterpart.name ∷ []) free ofree partner p.opartner here.at there.at (own.instance_ports place counterpart partner t) (oown.instance_ports p.oplace p.ocounterpart p.opartner p.is_other)
          (goes.same_leaf_ports (counterpart.name ∷ []) partner p.opartner here there)

      pair_props : SameValues partner.props p.opartner.props
      pair_props = subst₂ SameValues (leaf_props flat place counterpart partner t leaf) (leaf_props other p.oplace p.ocounterpart p.opartner p.is_other p.is_leaf)
          (same_cell_values names flat other own.has_paths oown.has_paths goes.same_facts (counterpart.name ∷ []) free ofree partner p.opartner
          (at_instance flat place counterpart partner t counterpart.name refl) (at_instance other p.oplace p.ocounterpart p.opartner p.is_other counterpart.name p.same_name))

      pair_instance : SameValues counterpart.props p.ocounterpart.props
      pair_instance = same_instance_values names flat other own.has_paths oown.has_paths goes.same_facts [] (no_constant_top names flat) (no_constant_top names other) t.top p.is_other.top
          (at_top flat t.top t.is_top) (at_top other p.is_other.top p.is_other.is_top) place p.oplace counterpart p.ocounterpart t.is_there p.is_other.is_there (sym p.same_name)
          (no_constant_instance names flat place counterpart partner t none) (no_constant_instance names other p.oplace p.ocounterpart p.opartner p.is_other p.no_constant)

      pair_leaf : (path : Path) (instance : HInst) (cell : HCell) → SameLeaf names path instance cell counterpart partner → SameLeaf names path instance cell p.ocounterpart p.opartner
      pair_leaf path instance cell s = record {
        same_name = p.same_name ∙ s.same_name;
        same_cell = s.same_cell ∙ p.same_cell;
        is_leaf = p.is_leaf;
        no_constant = p.no_constant;
        same_interface = interface_along cell partner p.opartner s.same_interface pair_interface;
        same_props = same_along cell.props partner.props p.opartner.props s.same_props pair_props;
        same_instance = same_along instance.props counterpart.props p.ocounterpart.props s.same_instance pair_instance;
      }

  has_leaves : (path : Path) (instance : HInst) (cell : HCell) → InnerLeaf names design path instance cell →
      (place : ℕ) × (counterpart : HInst) × (partner : HCell) × TopInstance other place counterpart partner × SameLeaf names path instance cell counterpart partner
  has_leaves path instance cell inner =
      let (place, counterpart, partner, t, s) = same.has_leaves path instance cell inner in
      let p : LeafPair place counterpart partner = leaf_pair place counterpart partner t s.is_leaf s.no_constant in
      (p.oplace, p.ocounterpart, p.opartner, p.is_other, pair_leaf place counterpart partner t s.is_leaf s.no_constant p path instance cell s)

  no_more : (place : ℕ) (counterpart : HInst) (partner : HCell) → TopInstance other place counterpart partner → ¬ IsAnyConstantCell names partner →
      IsLeaf partner × (path : Path) × (instance : HInst) × (cell : HCell) × InnerLeaf names design path instance cell × (counterpart.name ≡ joined path)
  no_more place counterpart partner t none =
      let leaf : IsLeaf partner = alone place counterpart partner t in
      let at : LeafAt names other (counterpart.name ∷ []) partner = record { at = at_instance other place counterpart partner t counterpart.name refl; is_leaf = leaf; no_constant = none } in
      let h : HasLeaf names flat (counterpart.name ∷ []) partner.name = (goes.same_leaves (counterpart.name ∷ []) partner.name).1 (record { cell = partner; is_leaf = at; is_named = refl }) in
      let f : FoundInstance flat counterpart.name h.cell = found_instance flat counterpart.name h.cell h.is_leaf.at in
      let (is_leaf, path, instance, cell, inner, named) = same.no_more f.place f.instance h.cell f.is h.is_leaf.no_constant in
      (leaf, path, instance, cell, inner, sym f.is_named ∙ named)

  flat_top : (top : HCell) × IsTop flat top
  flat_top = element_there flat.cells flat.top own.has_paths.has_top

  top_interface : (top otop : HCell) → IsTop flat top → IsTop other otop → SameInterface top otop
  top_interface top otop is ois = same_interface names flat other own.has_paths oown.has_paths goes.same_facts [] (no_constant_top names flat) (no_constant_top names other) top otop (at_top flat top is) (at_top other otop ois)
      (own.top_ports top is) (oown.top_ports otop ois) (goes.same_top_ports top otop is ois)

  top_props : (top otop : HCell) → IsTop flat top → IsTop other otop → SameValues (cell_props flat flat.top top) (cell_props other other.top otop)
  top_props top otop is ois = same_cell_values names flat other own.has_paths oown.has_paths goes.same_facts [] (no_constant_top names flat) (no_constant_top names other) top otop (at_top flat top is) (at_top other otop ois)

  path_joined : (path outer : Path) (name : List ℕ) → path ≡ name ∷ outer → flat_path path ≡ joined path ∷ []
  path_joined path outer name e = subst (λ p. flat_path p ≡ joined p ∷ []) (sym e) refl

  -- the partner of a terminal is a terminal of the flattened design
  is_terminal : (x y : FlatNode) → Partner names design x y → IsTerminal names flat y
  is_terminal x y (constant value) = of_constant value
  is_terminal x y (top_bit {top = top} {port = port} {bit = bit} is bit_is) =
      let (ftop, is_ftop) = flat_top in
      of_top is_ftop (port_bit_same top ftop (same.same_top top ftop is is_ftop).same_ports port bit bit_is)
  is_terminal x y (leaf_bit {path = path} {instance = instance} {cell = cell} {port = port} {bit = bit} inner bit_is) =
      let (place, counterpart, partner, t, s) = same.has_leaves path instance cell inner in
      let at : LeafAt names flat (joined path ∷ []) partner = record { at = at_instance flat place counterpart partner t (joined path) s.same_name; is_leaf = s.is_leaf; no_constant = s.no_constant } in
      let e : flat_path path ≡ joined path ∷ [] = path_joined path inner.outer inner.name inner.path_is in
      subst (λ p. IsTerminal names flat (At p (Port port bit))) (sym e) (of_leaf at (port_bit_same cell partner s.same_interface.same_ports port bit bit_is))

  pub goes_over : SameFlat names design other
  goes_over = record {
    same_name = λ top otop is ois. let (ftop, is_ftop) = flat_top in same.same_name top ftop is is_ftop ∙ goes.same_name ftop otop is_ftop ois;
    has_leaves = has_leaves;
    one_each = same.one_each;
    no_more = no_more;
    same_top = λ top otop is ois. let (ftop, is_ftop) = flat_top in interface_along top ftop otop (same.same_top top ftop is is_ftop) (top_interface ftop otop is_ftop ois);
    same_top_props = λ top otop is ois.
        let (ftop, is_ftop) = flat_top in
        same_along (cell_props design design.top top) (cell_props flat flat.top ftop) (cell_props other other.top otop) (same.same_top_props top ftop is is_ftop) (top_props ftop otop is_ftop ois);
    same_connection = λ x y ox oy px py.
        let first = same.same_connection x y ox oy px py in
        let second = goes.same_connection ox oy (is_terminal x ox px) (is_terminal y oy py) in
        (λ c. second.0 (first.0 c), λ c. first.1 (second.1 c));
  }
