-- the leaves and terminals of a design that is flattened
use Rattle.std.proofs.Common.{◌≡◌, ℕ, ◌<◌, List, true, not, eqb, refl, get_or, slice_get, length, Some, arith}
use Rattle.std.specs.Prelude.{Contains}
use Rattle.std.proofs.lemmas.Bool.Decides.{nat_tests}
use Rattle.std.proofs.lemmas.Option.{slice_get-get_or, slice_get_within}
use Rattle.flat_classes.proofs.LeafLists.{from_filter}
use Rattle.flat_classes.specs.Terminals.{AreFlatClasses, FlatValue, IsLeafSpot}
use Rattle.flat_classes.specs.declared.flat.Terminal.{Terminal}
use Rattle.flat_numbers.proofs.SpotLaws.{HasParent, SpotFacts, spot_facts}
use Rattle.flat_numbers.specs.declared.spots.Spot.{Spot}
use Rattle.flat_report.proofs.TerminalFacts.{terminal_at}
use Rattle.flat_classes.specs.Ways.{AreInner, IsInner, IsTerminal, a_port, a_pin, is_zero, is_one}
use Rattle.net_flatten_cells.specs.Wired.{HasSpot, HaveSpots}
use Rattle.net_flatten_rules.specs.FlatDesign.{inner}
use Rattle.net_hier.specs.Constants.{ConstantNames}
use Rattle.net_hier.specs.Design.{Design}
use Rattle.net_hier.specs.declared.cells.HCell.{HCell}

terminal_spot : {cells : List HCell} {spots : List Spot} (t : Terminal) → IsTerminal cells spots t → HasSpot (length spots) t
terminal_spot t (a_port of is) = tt
terminal_spot {spots = spots} t (a_pin {spot = spot} of is) = slice_get_within spots spot of.spot of.is_spot
terminal_spot t is_zero = tt
terminal_spot t is_one = tt

below_top : (number : ℕ) → not (eqb number 0) ≡ true → 0 < number
below_top number e = grind (arith, nat_tests)

-- each spot but the first is that of an instance
pub inner_spot : {cells : List HCell} {top : ℕ} {spots : List Spot} → SpotFacts cells top spots → (number : ℕ) (spot : Spot) → 0 < number → slice_get spots number ≡ Some spot → IsInner cells spots number
inner_spot {cells = cells} {spots = spots} facts number spot pos is =
    let h : HasParent cells 0 spots number spot = facts.inside number spot pos is in (
      h.before,
      h.instance.name,
      record {
        above = h.above;
        is_above = h.is_above;
        spot = spot;
        is_spot = is;
        no_top = pos;
        of_parent = omega (arith, h.of_parent);
        cell = h.cell;
        is_cell = h.is_cell;
        instance = h.instance;
        is_there = h.is_there;
        is_named = refl;
      },
    )

module _ (names : ConstantNames) (design : Design) (flat : FlatValue) (are : AreFlatClasses names design flat) where
  pub have_spots : HaveSpots (length flat.spots) flat.terminals
  have_spots k d lt = terminal_spot (get_or flat.terminals k d) (terminal_at names design flat are k (get_or flat.terminals k d) (slice_get-get_or flat.terminals k d lt))

  -- a leaf below the top is that of a leaf's spot
  pub inner_leaf : (number : ℕ) → Contains (inner flat.leaves) number → (0 < number) × IsLeafSpot names design.cells flat.spots number
  inner_leaf number c = let (there, e) = from_filter (λ leaf. not (eqb leaf 0)) flat.leaves number c in (below_top number e, (are.are_leaves.are number).0 there)

  pub are_inner : AreInner design.cells flat.spots (inner flat.leaves)
  are_inner number c = let (pos, h) = inner_leaf number c in inner_spot (spot_facts design.cells design.top flat.spots are.are_spots) number h.of_cell.spot pos h.of_cell.is_spot
