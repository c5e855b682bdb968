use Rattle.std.proofs.Common.{◌≡◌, ℕ, inl, inr, List, [], refl, sym, ◌∙◌, subst, Option}
use Rattle.net_hier.specs.Constants.{ConstantNames, AreConstantNames}
use Rattle.net_hier.specs.Design.{Design, IsCell}
use Rattle.net_hier.specs.Flat.{FlatNode, IsTerminal, of_constant, of_top, of_leaf}
use Rattle.net_hier.specs.Paths.{Path, LeafAt}
use Rattle.net_hier.specs.SameCells.{SameCell, SameCells}
use Rattle.net_hier.specs.SameDesign.{SameDesign, SamePorts, HasLeaf}
use Rattle.net_hier.specs.Valid.{HasPaths}
use Rattle.net_hier.proofs.PathLaws.{one_cell, same_element}
use Rattle.net_hier.proofs.Pairs.{PairAt, behind_constant, constant_back, constant_forth, leaf_back, leaf_forth, pair_here, pair_of, pair_there, path_back}
use Rattle.net_hier.specs.declared.cells.HCell.{HCell}
use Rattle.net_hier.proofs.Back.{connection_back}
use Rattle.net_hier.proofs.FactsAgree.{fact_back, fact_forth}
use Rattle.net_hier.proofs.Forth.{IsShared, connection_forth}

module _ (names : ConstantNames) (design other : Design) (n : Option ℕ) (valid : HasPaths design) (ovalid : HasPaths other) (same : SameCells names design other n) (differ : AreConstantNames names) where
  leaf_at_forth : (path : Path) (leaf : HCell) → LeafAt names design path leaf → (partner : HCell) × LeafAt names other path partner × PairAt names design other n path leaf partner
  leaf_at_forth path leaf h =
      let (partner, pair) = pair_of names design other n valid ovalid same path leaf h.at in
      let there : LeafAt names other path partner = record {
        at = pair_there pair;
        is_leaf = leaf_forth names design other n pair.number pair.onumber leaf partner pair.same h.is_leaf;
        no_constant = λ c. h.no_constant (c.0, constant_back names design other n pair.number pair.onumber leaf partner c.0 pair.same c.1);
      } in
      (partner, there, pair)

  leaf_at_back : (path : Path) (partner : HCell) → LeafAt names other path partner → (leaf : HCell) × LeafAt names design path leaf × PairAt names design other n path leaf partner
  leaf_at_back path partner h = elim (path_back names design other n valid ovalid same path partner h.at) [
    | inl found ↦
        let pair : PairAt names design other n path found.0 partner = found.1 in
        let here : LeafAt names design path found.0 = record {
          at = pair_here pair;
          is_leaf = leaf_back names design other n pair.number pair.onumber found.0 partner pair.same h.is_leaf;
          no_constant = λ c. h.no_constant (c.0, constant_forth names design other n pair.number pair.onumber found.0 partner c.0 pair.same c.1);
        } in
        (found.0, here, pair)
    | inr behind ↦ absurd (h.no_constant (behind.value, behind_constant names design other n valid ovalid same path partner behind h.at))
  ]

  top_pair : (top otop : HCell) → IsCell design.cells design.top top → IsCell other.cells other.top otop → PairAt names design other n [] top otop
  top_pair top otop h oh =
      let (partner, is_ocell, sc) = same.same_cells design.top other.top top same.same_top h in
      let e : partner ≡ otop = same_element other.cells other.top partner otop is_ocell oh in
      record { number = design.top; onumber = other.top; leads = refl; oleads = refl; is_cell = h; is_ocell = oh; are_partners = same.same_top; same = subst (SameCell names design other n design.top other.top top) e sc }

  terminal_shared : (x : FlatNode) → IsTerminal names design x → IsShared design x
  terminal_shared x (of_constant value) = tt
  terminal_shared x (of_top {cell = cell} h bit) = record { cell = cell; at = record { number = design.top; leads = refl; is_cell = h }; is_bit = bit; is_taken = refl }
  terminal_shared x (of_leaf {path = path} {cell = cell} leaf bit) = record { cell = cell; at = leaf.at; is_bit = bit; is_taken = refl }

  leaf_forth_named : (path : Path) (name : List ℕ) → HasLeaf names design path name → HasLeaf names other path name
  leaf_forth_named path name h =
      let (partner, there, pair) = leaf_at_forth path h.cell h.is_leaf in
      record { cell = partner; is_leaf = there; is_named = sym pair.same.same_name ∙ h.is_named }

  leaf_back_named : (path : Path) (name : List ℕ) → HasLeaf names other path name → HasLeaf names design path name
  leaf_back_named path name h =
      let (leaf, here, pair) = leaf_at_back path h.cell h.is_leaf in
      record { cell = leaf; is_leaf = here; is_named = pair.same.same_name ∙ h.is_named }

  leaf_ports : (path : Path) (leaf oleaf : HCell) → LeafAt names design path leaf → LeafAt names other path oleaf → SamePorts leaf oleaf
  leaf_ports path leaf oleaf h oh =
      let (partner, there, pair) = leaf_at_forth path leaf h in
      subst (SamePorts leaf) (one_cell other ovalid path partner oleaf there.at oh.at) pair.same.same_ports

  pub same_design : SameDesign names design other
  same_design = record {
    same_name = λ top otop h oh. (top_pair top otop h oh).same.same_name;
    same_leaves = λ path name. (leaf_forth_named path name, leaf_back_named path name);
    same_top_ports = λ top otop h oh. (top_pair top otop h oh).same.same_ports;
    same_leaf_ports = leaf_ports;
    same_facts = λ fact. (fact_forth names design other n valid ovalid same fact, fact_back names design other n valid ovalid same fact);
    same_connection = λ x y hx hy.
        (connection_forth names design other n valid ovalid same x y (terminal_shared x hx) (terminal_shared y hy), connection_back names design other n valid ovalid same differ x y (terminal_shared x hx) (terminal_shared y hy));
  }
