-- A design within the flat limit has few terminals: their bits are among those that the flat count counts.
use Rattle.std.proofs.Common.{◌≡◌, ℕ, zero, suc, ◌+◌, ◌<◌, ◌≤◌, ◌⊎◌, inl, inr, List, [], ◌∷◌, ◌++◌, refl, ap, subst, slice_get, get_or, Option, Some, None, length, map, sum_by, not, eqb, arith}
use Rattle.std.specs.Prelude.{Contains}
use Rattle.std.specs.List.{flat_map, range_with_len}
use Rattle.std.specs.Option.{option_map_or}
use Rattle.std.proofs.lemmas.List.{length-append, length-map}
use Rattle.std.proofs.lemmas.List.Concat.{length-flat_map}
use Rattle.std.proofs.lemmas.List.FromFn.{fill_by_all}
use Rattle.flat_classes.proofs.KindLaws.{in_range_list, part_of_sum}
use Rattle.flat_classes.proofs.LeafLists.{bits_length, from_filter}
use Rattle.flat_classes.specs.FlatSums.{IsFewFlat}
use Rattle.flat_classes.specs.Terminals.{bits_of_ports, cell_of, ports_at, ports_of, terminals_of}
use Rattle.flat_classes.specs.declared.flat.Terminal.{Terminal}
use Rattle.flat_classes.specs.declared.flat.Terminal.TheVariants.{Port, Pin, Zero, One}
use Rattle.flat_numbers.proofs.Counting.{map_there}
use Rattle.flat_numbers.proofs.SpotLaws.{spot_facts}
use Rattle.flat_numbers.specs.Spots.{AreSpots, top_spot}
use Rattle.flat_numbers.specs.declared.spots.Spot.{Spot}
use Rattle.net_flatten.proofs.Sums.{once_filter, sum_at_most, sum_mapped, sum_within}
use Rattle.net_flatten_cells.proofs.OrderLaws.{StandOnce}
use Rattle.net_flatten_cells.proofs.SizeLaws.{bits_of, spots_weigh, weight}
use Rattle.net_flatten_rules.specs.FlatDesign.{cell_at, inner}
use Rattle.net_hier.specs.Cells.{width_of}
use Rattle.net_hier.specs.Design.{Design}
use Rattle.net_hier.specs.Valid.{IsValid}
use Rattle.net_hier.specs.declared.cells.HCell.{HCell}
use Rattle.net_hier.specs.declared.cells.HPort.{HPort}

-- the bits of the ports of the cell at a spot weigh no more than the cell
bits_light : (cells : List HCell) (spots : List Spot) (number : ℕ) → sum_by (λ (port : HPort). width_of port.range) (ports_at cells spots number) ≤ weight cells (cell_at spots number)
bits_light cells spots number = of_spot (slice_get spots number)
  where
    of_cell : (o : Option HCell) → sum_by (λ (port : HPort). width_of port.range) (ports_of o) ≤ 1 + bits_of o
    of_cell None = omega arith
    of_cell (Some cell) = omega arith

    of_spot : (o : Option Spot) → sum_by (λ (port : HPort). width_of port.range) (ports_of (cell_of cells o)) ≤ weight cells (option_map_or (λ (s : Spot). s.cell) o 0)
    of_spot None = omega arith
    of_spot (Some spot) = of_cell (slice_get cells spot.cell)

read_cell : (spots : List Spot) (place : ℕ) → get_or (map (λ (s : Spot). s.cell) spots) place 0 ≡ cell_at spots place
read_cell [] place = refl
read_cell (spot ∷ spots) zero = refl
read_cell (spot ∷ spots) (suc place) = read_cell spots place

-- the cells at the spots, in their order
cells_read : (spots : List Spot) → map (λ (s : Spot). s.cell) spots ≡ map (cell_at spots) (range_with_len 0 (length spots))
cells_read spots = fill_by_all (cell_at spots) (map (λ (s : Spot). s.cell) spots) (length spots) 0 (length-map spots (λ (s : Spot). s.cell)) (λ place lt. read_cell spots place)

rising_once : (numbers : List ℕ) → ((i j a b : ℕ) → i < j → slice_get numbers i ≡ Some a → slice_get numbers j ≡ Some b → a < b) → StandOnce numbers
rising_once numbers rise i j n e f = elim (order i j) as (λ _. i ≡ j) [
  | inl lt ↦ absurd (let less = rise i j n n lt e f in omega (arith, less))
  | inr (inl same) ↦ same
  | inr (inr lt) ↦ absurd (let less = rise j i n n lt f e in omega (arith, less))
]
  where
    order : (a b : ℕ) → (a < b) ⊎ ((a ≡ b) ⊎ (b < a))
    order a b = grind arith

module _ (design : Design) (valid : IsValid design) (few : IsFewFlat design) (spots : List Spot) (are : AreSpots design spots) (leaves : List ℕ)
    (rise : (i j a b : ℕ) → i < j → slice_get leaves i ≡ Some a → slice_get leaves j ≡ Some b → a < b) (within : (leaf : ℕ) → Contains leaves leaf → leaf < length spots) where
  abbrev weigh : ℕ → ℕ
  weigh number = weight design.cells (cell_at spots number)

  abbrev pins : ℕ → List Terminal
  pins leaf = bits_of_ports (λ port bit. Pin leaf port bit) 0 (ports_at design.cells spots leaf)

  all_light : sum_by weigh (range_with_len 0 (length spots)) ≤ 2000000
  all_light =
      let s = spots_weigh design valid few spots are in
      let m = sum_mapped (weight design.cells) (cell_at spots) (range_with_len 0 (length spots)) in
      let r = ap (sum_by (weight design.cells)) (cells_read spots) in
      omega (arith, s, m, r)

  pins_few : length (flat_map pins (inner leaves)) ≤ 2000000
  pins_few =
      let among : (leaf : ℕ) → Contains (inner leaves) leaf → Contains (range_with_len 0 (length spots)) leaf = λ leaf c.
      let (there, other) = from_filter (λ leaf. not (eqb leaf 0)) leaves leaf c in
      let z : 0 + leaf ≡ leaf = omega arith in
      subst (Contains (range_with_len 0 (length spots))) z (in_range_list (length spots) 0 leaf (within leaf there)) in
      let once : StandOnce (inner leaves) = once_filter (λ leaf. not (eqb leaf 0)) leaves (rising_once leaves rise) in
      let f = length-flat_map pins (inner leaves) in
      let a = sum_at_most (λ leaf. length (pins leaf)) weigh (inner leaves) (λ leaf.
      let b = bits_length (λ port bit. Pin leaf port bit) 0 (ports_at design.cells spots leaf) in
      let l = bits_light design.cells spots leaf in
      omega (arith, b, l)) in
      let w = sum_within weigh (inner leaves) (range_with_len 0 (length spots)) once among in
      let l = all_light in
      omega (arith, f, a, w, l)

  bits_few : length (bits_of_ports (λ port bit. Port port bit) 0 (ports_at design.cells spots 0)) ≤ 2000000
  bits_few =
      let first = (spot_facts design.cells design.top spots are).first in
      let b = bits_length (λ port bit. Port port bit) 0 (ports_at design.cells spots 0) in
      let l = bits_light design.cells spots 0 in
      let s = spots_weigh design valid few spots are in
      let e : weigh 0 ≡ weight design.cells design.top = ap (λ o. weight design.cells (option_map_or (λ (s : Spot). s.cell) o 0)) first in
      let p = part_of_sum (weight design.cells) (map (λ (s : Spot). s.cell) spots) 0 design.top (map_there (λ (s : Spot). s.cell) spots 0 (top_spot design.top) first) in
      omega (arith, b, l, s, e, p)

  pub terminals_few : length (terminals_of design.cells spots leaves) ≤ 4000002
  terminals_few =
      let a = length-append (bits_of_ports (λ port bit. Port port bit) 0 (ports_at design.cells spots 0) ++ flat_map pins (inner leaves)) (Zero ∷ One ∷ []) in
      let b = length-append (bits_of_ports (λ port bit. Port port bit) 0 (ports_at design.cells spots 0)) (flat_map pins (inner leaves)) in
      let p = pins_few in
      let q = bits_few in
      omega (arith, a, b, p, q)
