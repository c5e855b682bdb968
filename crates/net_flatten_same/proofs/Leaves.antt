-- the leaves below the top of a design, and their numbers in the flattened one
use Rattle.std.proofs.Common.{◌≡◌, ℕ, ◌<◌, List, [], ◌∷◌, refl, sym, ◌∙◌, ap, subst, slice_get, get_or, Some, ◌==◌, length, map, arith}
use Rattle.std.specs.Prelude.{Contains}
use Rattle.std.specs.Option.{option_and_then, option_map_or}
use Rattle.std.proofs.lemmas.Bool.Decides.{Decides-eqb}
use Rattle.std.proofs.lemmas.Option.{get_or_from_slice_get, slice_get_within, slice_get-get_or}
use Rattle.net_graph.proofs.OrderLaws.{StandsIn, contained, reached_listed, visits_below, visits_lists}
use Rattle.net_hier.specs.Constants.{ConstantNames}
use Rattle.net_hier.specs.Design.{Design, IsCell, cells_below}
use Rattle.net_hier.specs.Paths.{Path, CellAt}
use Rattle.net_hier.specs.Valid.{IsValid}
use Rattle.net_hier.specs.declared.cells.HCell.{HCell}
use Rattle.net_hier.specs.declared.cells.HInst.{HInst}
use Rattle.net_hier.proofs.Partners.{valid_has_paths}
use Rattle.net_hier.proofs.PathLaws.{one_cell, same_element}
use Rattle.flat_numbers.specs.Numbers.{CellOf}
use Rattle.flat_numbers.specs.Spots.{IsSpotBelow, IsSpotOf}
use Rattle.flat_numbers.specs.declared.spots.Spot.{Spot}
use Rattle.flat_numbers.proofs.Linking.{contains_there}
use Rattle.flat_numbers.proofs.PathSpots.{cell_of_spot, one_path, spot_of_cell}
use Rattle.flat_numbers.proofs.SpotLaws.{SpotFacts, spot_facts}
use Rattle.flat_classes.specs.Terminals.{AreFlatClasses, FlatValue, IsLeafSpot}
use Rattle.flat_classes.proofs.LeafLists.{to_filter}
use Rattle.flat_classes.specs.Ways.{ArePaths, path_at}
use Rattle.flat_classes.specs.Ways.{instance_of}
use Rattle.net_flatten_rules.specs.FlatDesign.{cell_at, cell_or_none, inner, leaf_cells, no_cell, place_in, stands_at}
use Rattle.net_flatten_rules.specs.Joined.{instance_at, joined, name_at}
use Rattle.net_flatten_rules.specs.Rules.{repeated}
use Rattle.net_flatten_rules.specs.SameFlat.{InnerLeaf}
use Rattle.net_flatten_same.proofs.Lists.{any_of, from_inner, map_at, names_differ, place_there, to_inner}

-- each cell's number stands in the order of a valid design
pub ordered : (design : Design) → IsValid design → (number : ℕ) → number < length design.cells → Contains design.order number
ordered design valid number lt =
    let s : StandsIn design.order number = reached_listed (cells_below design.cells) design.top design.order
    (visits_below (cells_below design.cells) design.top valid.postorder (λ place n list at instance e is there. absurd (cc)))
    (visits_lists (cells_below design.cells) design.top valid.postorder) number (valid.reached number lt) in
    contains_there design.order s.place number s.is_there

-- the flat classes of a valid design, the paths of its spots, and that no two leaves below the top have one joined name
pub record Flattening (names : ConstantNames) (design : Design) : Type 0 where
  pub valid : IsValid design
  pub flat : FlatValue
  pub are : AreFlatClasses names design flat
  pub paths : List Path
  pub are_paths : ArePaths design.cells flat.spots paths
  pub apart : repeated [] (map (name_at paths) (inner flat.leaves)) ≡ []

abbrev pub leaves_of : FlatValue → List ℕ
leaves_of flat = inner flat.leaves

-- the numbers of the cells of the leaves, in the order of the design
abbrev pub numbers_of : Design → FlatValue → List ℕ
numbers_of design flat = leaf_cells design.order flat.spots (leaves_of flat)

module _ (names : ConstantNames) (design : Design) (f : Flattening names design) where
  pub facts : SpotFacts design.cells design.top f.flat.spots
  facts = spot_facts design.cells design.top f.flat.spots f.are.are_spots

  abbrev pub leaves : List ℕ
  leaves = leaves_of f.flat

  abbrev pub numbers : List ℕ
  numbers = numbers_of design f.flat

  pub listed_path : (number : ℕ) (spot : Spot) → slice_get f.flat.spots number ≡ Some spot → IsSpotOf design.cells f.flat.spots (path_at f.paths number) number
  listed_path number spot e =
      let lt : number < length f.flat.spots = slice_get_within f.flat.spots number spot e in
      f.are_paths.are number (get_or f.paths number []) (slice_get-get_or f.paths number [] (omega (arith, lt, f.are_paths.len)))

  pub path_is : (path : Path) (number : ℕ) (spot : Spot) → slice_get f.flat.spots number ≡ Some spot → IsSpotOf design.cells f.flat.spots path number → path_at f.paths number ≡ path
  path_is path number spot e at = one_path design f.valid f.flat.spots facts (path_at f.paths number) path number (listed_path number spot e) at

  -- two leaves below the top of one joined name are one
  pub one_place : (i j a b : ℕ) → slice_get leaves i ≡ Some a → slice_get leaves j ≡ Some b → name_at f.paths a ≡ name_at f.paths b → i ≡ j
  one_place i j a b is_a is_b e = names_differ [] (map (name_at f.paths) leaves) f.apart i j (name_at f.paths b)
      (map_at (name_at f.paths) leaves i a is_a ∙ ap Some e) (map_at (name_at f.paths) leaves j b is_b)

  pub one_leaf : (a b : ℕ) → Contains leaves a → Contains leaves b → name_at f.paths a ≡ name_at f.paths b → a ≡ b
  one_leaf a b in_a in_b e =
      let s : StandsIn leaves a = contained leaves a in_a in
      let t : StandsIn leaves b = contained leaves b in_b in
      let p : s.place ≡ t.place = one_place s.place t.place a b s.is_there t.is_there e in
      same_element leaves t.place a b (subst (λ n. slice_get leaves n ≡ Some a) p s.is_there) t.is_there

  -- the place of a leaf is where it stands
  pub leaf_place : (place leaf : ℕ) → slice_get leaves place ≡ Some leaf → place_in leaves leaf ≡ place
  leaf_place place leaf is = one_place (place_in leaves leaf) place leaf leaf (place_there leaves leaf (contains_there leaves place leaf is)) is refl

  pub place_inside : (leaf : ℕ) → Contains leaves leaf → slice_get leaves (place_in leaves leaf) ≡ Some leaf
  place_inside leaf c = place_there leaves leaf c

  -- what is known of the spot of a leaf below the top
  pub record LeafSpot (leaf : ℕ) : Type 0 where
    pub spot : IsLeafSpot names design.cells f.flat.spots leaf
    pub no_top : ¬ (leaf ≡ 0)
    pub cell_number : cell_at f.flat.spots leaf ≡ spot.of_cell.spot.cell
    pub has_number : slice_get numbers (place_in numbers (cell_at f.flat.spots leaf)) ≡ Some (cell_at f.flat.spots leaf)
    pub has_cell : cell_or_none design.cells (cell_at f.flat.spots leaf) ≡ spot.cell

  pub leaf_spot : (leaf : ℕ) → Contains leaves leaf → LeafSpot leaf
  leaf_spot leaf c =
      let (in_leaves, no_top) = from_inner f.flat.leaves leaf c in
      let spot : IsLeafSpot names design.cells f.flat.spots leaf = (f.are.are_leaves.are leaf).0 in_leaves in
      let of : CellOf design.cells f.flat.spots leaf spot.cell = spot.of_cell in
      let e : cell_at f.flat.spots leaf ≡ of.spot.cell = ap (λ o. option_map_or (λ (s : Spot). s.cell) o 0) of.is_spot in
      let is_cell : IsCell design.cells (cell_at f.flat.spots leaf) spot.cell = subst (λ n. IsCell design.cells n spot.cell) (sym e) of.is_cell in
      let there : Contains numbers (cell_at f.flat.spots leaf) =
      to_filter (stands_at f.flat.spots leaves) design.order (cell_at f.flat.spots leaf) (ordered design f.valid (cell_at f.flat.spots leaf) (slice_get_within design.cells (cell_at f.flat.spots leaf) spot.cell is_cell))
      (any_of (λ other. cell_at f.flat.spots other == cell_at f.flat.spots leaf) leaves leaf c ((Decides-eqb (cell_at f.flat.spots leaf) (cell_at f.flat.spots leaf)).1 refl)) in
      record {
        spot = spot;
        no_top = no_top;
        cell_number = e;
        has_number = place_there numbers (cell_at f.flat.spots leaf) there;
        has_cell = get_or_from_slice_get design.cells (cell_at f.flat.spots leaf) spot.cell no_cell is_cell;
      }

  -- the instance that the spot is
  pub instance_read : (outer : ℕ) (name : List ℕ) (leaf : ℕ) (b : IsSpotBelow design.cells f.flat.spots outer name leaf) → instance_at design.cells f.flat.spots leaf ≡ Some b.instance
  instance_read outer name leaf b =
      ap (option_and_then (instance_of design.cells f.flat.spots)) b.is_spot
      ∙ (ap (λ n. option_and_then (λ above. option_and_then (λ cell. slice_get cell.instances b.spot.instance) (slice_get design.cells above.cell)) (slice_get f.flat.spots n)) b.of_parent
      ∙ (ap (option_and_then (λ above. option_and_then (λ cell. slice_get cell.instances b.spot.instance) (slice_get design.cells above.cell))) b.is_above
      ∙ (ap (option_and_then (λ cell. slice_get cell.instances b.spot.instance)) b.is_cell ∙ b.is_there)))

  -- the spot of a leaf below the top, and its last instance
  pub record SpotFor (path : Path) (instance : HInst) (cell : HCell) : Type 0 where
    pub leaf : ℕ
    pub is_leaf : Contains leaves leaf
    pub at : IsSpotOf design.cells f.flat.spots path leaf
    pub of_cell : CellOf design.cells f.flat.spots leaf cell
    pub path_is_listed : path_at f.paths leaf ≡ path
    pub is_instance : instance_at design.cells f.flat.spots leaf ≡ Some instance

  below_is : (path : Path) (name : List ℕ) (outer : Path) (leaf : ℕ) → path ≡ name ∷ outer → IsSpotOf design.cells f.flat.spots path leaf → IsSpotOf design.cells f.flat.spots (name ∷ outer) leaf
  below_is path name outer leaf e at = subst (λ p. IsSpotOf design.cells f.flat.spots p leaf) e at

  pub spot_for : (path : Path) (instance : HInst) (cell : HCell) → InnerLeaf names design path instance cell → SpotFor path instance cell
  spot_for path instance cell h =
      let (leaf, at, of) = spot_of_cell design f.valid f.flat.spots facts path cell h.leaf.at in
      let down : IsSpotOf design.cells f.flat.spots (h.name ∷ h.outer) leaf = below_is path h.name h.outer leaf h.path_is at in
      let b : IsSpotBelow design.cells f.flat.spots down.0 h.name leaf = down.2 in
      let no_top : ¬ (leaf ≡ 0) = λ e. omega (arith, e, b.no_top) in
      let above : CellAt design h.outer b.cell = cell_of_spot design f.valid f.flat.spots facts h.outer down.0 b.cell down.1 (record { spot = b.above; is_spot = b.is_above; is_cell = b.is_cell }) in
      let same_cell : b.cell ≡ h.above = one_cell design (valid_has_paths design f.valid) h.outer b.cell h.above above h.at_above in
      let there : slice_get h.above.instances b.spot.instance ≡ Some b.instance = subst (λ c. slice_get c.instances b.spot.instance ≡ Some b.instance) same_cell b.is_there in
      let same_number : b.spot.instance ≡ h.number =
      (f.valid.good_cells h.at_above.number h.above h.at_above.is_cell).instance_names b.spot.instance h.number b.instance instance there h.is_there (b.is_named ∙ sym h.is_named) in
      let same_instance : b.instance ≡ instance = same_element h.above.instances h.number b.instance instance (subst (λ n. slice_get h.above.instances n ≡ Some b.instance) same_number there) h.is_there in
      record {
        leaf = leaf;
        is_leaf = to_inner f.flat.leaves leaf ((f.are.are_leaves.are leaf).1 (record { cell = cell; of_cell = of; is_leaf = h.leaf.is_leaf; no_constant = h.leaf.no_constant })) no_top;
        at = at;
        of_cell = of;
        path_is_listed = path_is path leaf of.spot of.is_spot at;
        is_instance = instance_read down.0 h.name leaf b ∙ ap Some same_instance;
      }

  -- a leaf below the top stands at a path
  pub record LeafFor (leaf : ℕ) : Type 0 where
    pub path : Path
    pub instance : HInst
    pub cell : HCell
    pub inner_leaf : InnerLeaf names design path instance cell
    pub path_is_listed : path_at f.paths leaf ≡ path

  leaf_below : (leaf : ℕ) (h : LeafSpot leaf) (path : Path) → path_at f.paths leaf ≡ path → IsSpotOf design.cells f.flat.spots path leaf → LeafFor leaf
  leaf_below leaf h [] listed at = absurd (h.no_top at)
  leaf_below leaf h (name ∷ outer) listed at =
      let b : IsSpotBelow design.cells f.flat.spots at.0 name leaf = at.2 in
      record {
        path = name ∷ outer;
        instance = b.instance;
        cell = h.spot.cell;
        inner_leaf = record {
          leaf = record { at = cell_of_spot design f.valid f.flat.spots facts (name ∷ outer) leaf h.spot.cell at h.spot.of_cell; is_leaf = h.spot.is_leaf; no_constant = h.spot.no_constant };
          name = name;
          outer = outer;
          path_is = refl;
          above = b.cell;
          at_above = cell_of_spot design f.valid f.flat.spots facts outer at.0 b.cell at.1 (record { spot = b.above; is_spot = b.is_above; is_cell = b.is_cell });
          number = b.spot.instance;
          is_there = b.is_there;
          is_named = b.is_named;
        };
        path_is_listed = listed;
      }

  pub leaf_for : (leaf : ℕ) → Contains leaves leaf → LeafFor leaf
  leaf_for leaf c =
      let h : LeafSpot leaf = leaf_spot leaf c in
      leaf_below leaf h (path_at f.paths leaf) refl (listed_path leaf h.spot.of_cell.spot h.spot.of_cell.is_spot)

  -- two paths of leaves below the top of one joined name are one
  pub one_joined : (path opath : Path) (instance oinstance : HInst) (cell ocell : HCell) → InnerLeaf names design path instance cell → InnerLeaf names design opath oinstance ocell → joined path ≡ joined opath → path ≡ opath
  one_joined path opath instance oinstance cell ocell h oh e =
      let s : SpotFor path instance cell = spot_for path instance cell h in
      let t : SpotFor opath oinstance ocell = spot_for opath oinstance ocell oh in
      let same : s.leaf ≡ t.leaf = one_leaf s.leaf t.leaf s.is_leaf t.is_leaf (ap joined s.path_is_listed ∙ (e ∙ sym (ap joined t.path_is_listed))) in
      one_path design f.valid f.flat.spots facts path opath t.leaf (subst (IsSpotOf design.cells f.flat.spots path) same s.at) t.at
