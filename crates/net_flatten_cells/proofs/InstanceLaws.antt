-- the instances for leaves
use Rattle.std.proofs.Common.{◌≡◌, ℕ, ◌<◌, List, sym, ◌∙◌, ap, get_or, length, arith}
use Rattle.std.specs.Option.{option_map_or}
use Rattle.std.proofs.lemmas.Option.{get_or_from_slice_get, slice_get_within}
use Rattle.flat_numbers.proofs.SpotLaws.{listed_cells}
use Rattle.flat_numbers.specs.Spots.{AreSpots}
use Rattle.flat_numbers.specs.declared.spots.Spot.{Spot}
use Rattle.flat_classes.proofs.WayLaws.{InnerFacts, inner_facts}
use Rattle.flat_classes.specs.Ways.{IsInner}
use Rattle.net_flatten_rules.specs.FlatDesign.{cell_at, leaf_instance, place_in, props_of}
use Rattle.net_flatten_rules.specs.Joined.{instance_at, name_at}
use Rattle.net_hier.specs.Design.{Design}
use Rattle.net_hier.specs.Paths.{Path}
use Rattle.net_hier.specs.declared.cells.HCell.{HCell}
use Rattle.net_hier.specs.declared.cells.HProp.{HProp}

-- the cell at the spot of a leaf
pub record LeafRead (design : Design) (spots : List Spot) (leaf : ℕ) (spot : Spot) : Type 0 where
  pub within : leaf < length spots
  pub cell_within : spot.cell < length design.cells
  pub is : spot.cell ≡ cell_at spots leaf

pub leaf_read : (design : Design) (spots : List Spot) → AreSpots design spots → (leaf : ℕ) → IsInner design.cells spots leaf → (d : Spot) → LeafRead design spots leaf (get_or spots leaf d)
leaf_read design spots are leaf inner d =
    let f : InnerFacts design.cells spots leaf = inner_facts design.cells spots leaf inner in
    let same : get_or spots leaf d ≡ f.spot = get_or_from_slice_get spots leaf f.spot d f.is_spot in
    let (cell, is_cell) = listed_cells are leaf f.spot f.is_spot in
    let lt : f.spot.cell < length design.cells = slice_get_within design.cells f.spot.cell cell is_cell in
    let e : (get_or spots leaf d).cell ≡ f.spot.cell = ap (λ (s : Spot). s.cell) same in
    record {
      within = slice_get_within spots leaf f.spot f.is_spot;
      cell_within = omega (arith, lt, e);
      is = e ∙ sym (ap (λ o. option_map_or (λ (s : Spot). s.cell) o 0) f.is_spot);
    }

pub leaf_made : (cells : List HCell) (spots : List Spot) (paths : List Path) (numbers : List ℕ) (leaf : ℕ) (name : List ℕ) (cell : ℕ) (props : List HProp) → name ≡ name_at paths leaf → cell ≡ place_in numbers (cell_at spots leaf) → props ≡ props_of (instance_at cells spots leaf) →
    record { name = name; cell = cell; props = props } ≡ leaf_instance cells spots paths numbers leaf
leaf_made cells spots paths numbers leaf name cell props e f g = λ j. record { name = e j; cell = f j; props = g j }
