-- The flat classes of a valid design within the flat limit are there, up to double negation: which terminals are connected is a relation.
use Rattle.std.proofs.Common.{◌≡◌, ℕ, ◌<◌, inl, inr, List, [], ◌∷◌, refl, sym, ◌∙◌, ap, subst, subst₂, get_or, true, false, length, arith}
use Rattle.std.specs.Prelude.{slice_index}
use Rattle.std.proofs.lemmas.Option.{get_or_from_slice_get, slice_get_within}
use Rattle.flat_classes.specs.FlatSums.{IsFewFlat}
use Rattle.flat_classes.specs.Terminals.{AreFlatClasses, AreGroups, AreLeaves, FlatValue, IsLeafSpot, IsNodeOf, of_one, of_pin, of_port, of_zero, terminals_of}
use Rattle.flat_classes.specs.declared.flat.Terminal.{Terminal}
use Rattle.flat_classes.specs.declared.flat.Terminal.TheVariants.{Port, Pin, Zero, One}
use Rattle.flat_numbers.proofs.PathSpots.{one_path}
use Rattle.flat_numbers.proofs.SpotLaws.{SpotFacts, spot_facts}
use Rattle.flat_numbers.specs.Spots.{AreSpots, IsSpotBelow, IsSpotOf, top_spot}
use Rattle.flat_numbers.specs.declared.spots.Spot.{Spot}
use Rattle.flat_report.proofs.OneReport.{listed_path, some_paths}
use Rattle.flat_classes.specs.Ways.{ArePaths, path_at}
use Rattle.net_flatten_answers.proofs.Chosen.{AreChosen, chosen_there}
use Rattle.net_flatten_answers.proofs.Few.{terminals_few}
use Rattle.net_flatten_answers.proofs.Grouped.{Grouping, IsEquivalence, groups_there}
use Rattle.net_flatten_answers.proofs.Walking.{spots_there}
use Rattle.net_graph.proofs.WalkLaws.{linked_along, linked_back, linked_itself}
use Rattle.net_hier.specs.Constants.{ConstantNames}
use Rattle.net_hier.specs.Design.{Design}
use Rattle.net_hier.specs.Flat.{At, Constant, FlatNode, FlatStep, IsConnected}
use Rattle.net_hier.specs.Paths.{Path}
use Rattle.net_hier.specs.Valid.{IsValid}
use Rattle.net_hier.specs.declared.nodes.Node.TheVariants.{Port as PortNode}

-- the flat classes of a design, and the paths of its spots
pub record HasClasses (names : ConstantNames) (design : Design) : Type 0 where
  pub flat : FlatValue
  pub are_classes : AreFlatClasses names design flat
  pub paths : List Path
  pub are_paths : ArePaths design.cells flat.spots paths

-- the node of a terminal, by the paths of the spots
abbrev node_of : List Path → Terminal → FlatNode
node_of paths (Port port bit) = At [] (PortNode port bit)
node_of paths (Pin spot port bit) = At (path_at paths spot) (PortNode port bit)
node_of paths Zero = Constant false
node_of paths One = Constant true

turned : (names : ConstantNames) (design : Design) (x y : FlatNode) → FlatStep names design x y → FlatStep names design y x
turned names design x y (inl step) = inr step
turned names design x y (inr step) = inl step

-- the places of terminals whose nodes are connected
abbrev AreNear : ConstantNames → Design → List Path → List Terminal → ℕ → ℕ → Type 0
AreNear names design paths terminals i j = IsConnected names design (node_of paths (get_or terminals i Zero)) (node_of paths (get_or terminals j Zero))

near_is : (names : ConstantNames) (design : Design) (paths : List Path) (terminals : List Terminal) → IsEquivalence (AreNear names design paths terminals)
near_is names design paths terminals = record {
  itself = λ i. linked_itself (FlatStep names design) (node_of paths (get_or terminals i Zero));
  back = λ i j h. linked_back (FlatStep names design) (turned names design) h;
  along = λ i j k h l. linked_along h l;
}

module _ (names : ConstantNames) (design : Design) (valid : IsValid design) (few : IsFewFlat design) (spots : List Spot) (are : AreSpots design spots) (paths : List Path) (are_paths : ArePaths design.cells spots paths) where
  facts : SpotFacts design.cells design.top spots
  facts = spot_facts design.cells design.top spots are

  -- the spot of a path is one of the spots
  spot_within : (path : Path) (number : ℕ) → IsSpotOf design.cells spots path number → number < length spots
  spot_within [] number at = subst (λ n. n < length spots) (sym at) (slice_get_within spots 0 (top_spot design.top) facts.first)
  spot_within (name ∷ path) number at = let b : IsSpotBelow design.cells spots at.0 name number = at.2 in slice_get_within spots number b.spot b.is_spot

  -- a terminal has one node
  node_is : (t : Terminal) (x : FlatNode) → IsNodeOf design.cells spots t x → node_of paths t ≡ x
  node_is t x of_port = refl
  node_is t x (of_pin {spot = spot} {port = port} {bit = bit} {path = path} at) =
      ap (λ p. At p (PortNode port bit)) (one_path design valid spots facts (path_at paths spot) path spot (listed_path design valid spots are paths are_paths spot (spot_within path spot at)) at)
  node_is t x of_zero = refl
  node_is t x of_one = refl

  module _ (leaves : List ℕ) (chosen : AreChosen (IsLeafSpot names design.cells spots) (length spots) leaves) where
    abbrev terminals : List Terminal
    terminals = terminals_of design.cells spots leaves

    leaves_are : AreLeaves names design.cells spots leaves
    leaves_are = record {
      are = λ number. (λ c. ((chosen.are number).0 c).1, λ h. (chosen.are number).1 (slice_get_within spots number h.of_cell.spot h.of_cell.is_spot, h));
      in_order = chosen.in_order;
    }

    module _ (grouping : Grouping (AreNear names design paths terminals) (length terminals)) where
      groups_are : AreGroups names design spots terminals (slice_index grouping.groups)
      groups_are i j s t x y is_s is_t x_of y_of =
          let first : get_or terminals i Zero ≡ s = get_or_from_slice_get terminals i s Zero is_s in
          let second : get_or terminals j Zero ≡ t = get_or_from_slice_get terminals j t Zero is_t in
          let from : node_of paths (get_or terminals i Zero) ≡ x = ap (node_of paths) first ∙ node_is s x x_of in
          let to : node_of paths (get_or terminals j Zero) ≡ y = ap (node_of paths) second ∙ node_is t y y_of in
          let near = grouping.are.same i j (slice_get_within terminals i s is_s) (slice_get_within terminals j t is_t) in
          (λ e. subst₂ (IsConnected names design) from to (near.0 e), λ c. near.1 (subst₂ (IsConnected names design) (sym from) (sym to) c))

      classes_of : HasClasses names design
      classes_of = record {
        flat = record { spots = spots; leaves = leaves; terminals = terminals; groups = grouping.groups; count = grouping.count };
        are_classes = record {
          are_spots = are;
          are_leaves = leaves_are;
          are_terminals = refl;
          are_groups = groups_are;
          are_numbers = record {
            len = grouping.are.len;
            few = let l = terminals_few design valid few spots are leaves chosen.in_order (λ leaf c. ((chosen.are leaf).0 c).0) in omega (arith, l);
            in_order = grouping.are.in_order;
          };
        };
        paths = paths;
        are_paths = are_paths;
      }

pub classes_there : (names : ConstantNames) (design : Design) → IsValid design → IsFewFlat design → ¬ ¬ HasClasses names design
classes_there names design valid few never =
    let (spots, are) = spots_there design valid in
    let (paths, are_paths) = some_paths design valid spots are in
    chosen_there (IsLeafSpot names design.cells spots) (length spots) (λ (leaves : (numbers : List ℕ) × AreChosen (IsLeafSpot names design.cells spots) (length spots) numbers).
    groups_there (AreNear names design paths (terminals_of design.cells spots leaves.0)) (near_is names design paths (terminals_of design.cells spots leaves.0)) (length (terminals_of design.cells spots leaves.0))
    (λ grouping. never (classes_of names design valid few spots are paths are_paths leaves.0 leaves.1 grouping)))
