-- the units of a flattened design are within the limit
use Rattle.std.proofs.Common.{◌≡◌, ℕ, zero, suc, ◌+◌, ◌<◌, ◌≤◌, ◌⊎◌, inl, inr, List, [], ◌∷◌, ◌++◌, refl, sym, ◌∙◌, ap, subst, slice_get, get_or, Option, Some, None, length, map, sum_by, not, eqb, leb, arith}
use Rattle.std.specs.Prelude.{Contains}
use Rattle.std.specs.List.{flat_map, range_with_len}
use Rattle.std.specs.Option.{option_map_or}
use Rattle.std.proofs.lemmas.List.{length-append, length-map}
use Rattle.std.proofs.lemmas.List.Concat.{length-flat_map}
use Rattle.std.proofs.lemmas.List.FromFn.{fill_by_all, length-map-range_with_len, length-range_with_len}
use Rattle.std.proofs.lemmas.List.Sums.{sum_by-append, sum_by-cons}
use Rattle.flat_classes.proofs.KindLaws.{in_range_list, part_of_sum}
use Rattle.flat_classes.proofs.LeafLists.{bits_length}
use Rattle.flat_classes.specs.FlatSums.{IsFewFlat}
use Rattle.flat_classes.specs.Groups.{group_at, places_of}
use Rattle.flat_classes.specs.Terminals.{AreFlatClasses, FlatValue, IsLeafSpot, bits_of_ports, cell_of, ports_at, ports_of}
use Rattle.flat_classes.specs.declared.flat.Terminal.{Terminal}
use Rattle.flat_classes.specs.declared.flat.Terminal.TheVariants.{Port, Pin, Zero, One}
use Rattle.flat_numbers.proofs.Counting.{map_there}
use Rattle.flat_numbers.proofs.Linking.{contains_there}
use Rattle.flat_numbers.proofs.SpotLaws.{spot_facts}
use Rattle.flat_numbers.specs.Spots.{top_spot}
use Rattle.flat_numbers.specs.declared.spots.Spot.{Spot}
use Rattle.net_flatten.proofs.Fits.{cells, leaves, numbers, number_leaf, numbers_once, leaf_spot, the_stub, the_top}
use Rattle.net_flatten.proofs.Sums.{once_filter, sum_at_most, sum_filtered, sum_mapped, sum_within, valued_few}
use Rattle.net_flatten_rules.proofs.MarkLaws.{inner_within}
use Rattle.net_flatten_cells.proofs.NetLaws.{groups_few}
use Rattle.net_flatten_cells.proofs.OrderLaws.{StandOnce}
use Rattle.net_flatten_cells.proofs.SizeLaws.{bits_of, filtered_few, spots_weigh, weighs_one, weight}
use Rattle.net_flatten_rules.specs.FlatDesign.{cell_at, cell_or_none, join_at, joins_from, numbered_net, wired}
use Rattle.net_hier.specs.Cells.{width_of}
use Rattle.net_hier.specs.Constants.{ConstantNames}
use Rattle.net_hier.specs.Design.{Design}
use Rattle.net_hier.specs.Paths.{Path}
use Rattle.net_hier.specs.Units.{cell_units, port_bits, units}
use Rattle.net_hier.specs.Valid.{IsHier}
use Rattle.net_hier.specs.declared.cells.HCell.{HCell}
use Rattle.net_hier.specs.declared.cells.HPort.{HPort}

-- ---- bits and weights

stub_light : (cells : List HCell) (number : ℕ) → port_bits (cell_or_none cells number) ≤ bits_of (slice_get cells number)
stub_light [] number = omega arith
stub_light (cell ∷ cells) zero = omega arith
stub_light (cell ∷ cells) (suc number) = stub_light cells number

pins_light : (cells : List HCell) (spots : List Spot) (leaf : ℕ) → sum_by (λ (port : HPort). width_of port.range) (ports_at cells spots leaf) ≤ weight cells (cell_at spots leaf)
pins_light cells spots leaf = of_spot (slice_get spots leaf)
  where
    of_cell : (o : Option HCell) → sum_by (λ (port : HPort). width_of port.range) (ports_of o) ≤ 1 + bits_of o
    of_cell None = omega arith
    of_cell (Some cell) = omega arith

    of_spot : (o : Option Spot) → sum_by (λ (port : HPort). width_of port.range) (ports_of (cell_of cells o)) ≤ weight cells (option_map_or (λ (s : Spot). s.cell) o 0)
    of_spot None = omega arith
    of_spot (Some spot) = of_cell (slice_get cells spot.cell)

read_cell : (spots : List Spot) (place : ℕ) → get_or (map (λ (s : Spot). s.cell) spots) place 0 ≡ cell_at spots place
read_cell [] place = refl
read_cell (spot ∷ spots) zero = refl
read_cell (spot ∷ spots) (suc place) = read_cell spots place

cells_read : (spots : List Spot) → map (λ (s : Spot). s.cell) spots ≡ map (cell_at spots) (range_with_len 0 (length spots))
cells_read spots = fill_by_all (cell_at spots) (map (λ (s : Spot). s.cell) spots) (length spots) 0 (length-map spots (λ (s : Spot). s.cell)) (λ place lt. read_cell spots place)

-- ---- joins

joins_long : (terminals : List Terminal) (leaves : List ℕ) (net : ℕ) (groups : List (List ℕ)) → length (joins_from terminals leaves net groups) ≡ sum_by (λ members. length members) groups
joins_long terminals leaves net [] = refl
joins_long terminals leaves net (members ∷ groups) =
    let a = length-append (map (join_at terminals leaves net) members) (joins_from terminals leaves (suc net) groups) in
    let b = length-map members (join_at terminals leaves net) in
    let c = joins_long terminals leaves (suc net) groups in
    let d = sum_by-cons (λ (m : List ℕ). length m) members groups in
    omega (arith, a, b, c, d)

members_few : (groups : List ℕ) (count : ℕ) → sum_by (λ members. length members) (map (places_of groups) (range_with_len 0 count)) ≤ length groups
members_few groups count =
    let m = sum_mapped (λ (members : List ℕ). length members) (places_of groups) (range_with_len 0 count) in
    let v = valued_few (group_at groups) count (range_with_len 0 (length groups)) in
    let l = length-range_with_len 0 (length groups) in
    omega (arith, m, v, l)

module _ (names : ConstantNames) (design : Design) (hier : IsHier design) (few : IsFewFlat design) (flat : FlatValue) (are : AreFlatClasses names design flat) (paths : List Path) where
  abbrev ls : List ℕ
  ls = leaves names design hier few flat are paths

  abbrev ns : List ℕ
  ns = numbers names design hier few flat are paths

  abbrev tc : HCell
  tc = the_top names design hier few flat are paths

  abbrev weigh : ℕ → ℕ
  weigh = weight design.cells

  spots_light : sum_by weigh (map (λ (s : Spot). s.cell) flat.spots) ≤ 2000000
  spots_light = spots_weigh design hier.valid few flat.spots are.are_spots

  -- the cells at the leaves
  numbers_light : sum_by weigh ns ≤ 2000000
  numbers_light =
      let s = spots_light in
      let w = sum_within weigh ns (map (λ (s : Spot). s.cell) flat.spots) (numbers_once names design hier few flat are paths) (λ number c.
      let (leaf, member, same) = number_leaf names design hier few flat are paths number c in
      let h : IsLeafSpot names design.cells flat.spots leaf = leaf_spot names design hier few flat are paths leaf member in
      let e : h.of_cell.spot.cell ≡ number = sym (ap (λ o. option_map_or (λ (s : Spot). s.cell) o 0) h.of_cell.is_spot) ∙ same in
      contains_there (map (λ (s : Spot). s.cell) flat.spots) leaf number (map_there (λ (s : Spot). s.cell) flat.spots leaf h.of_cell.spot h.of_cell.is_spot ∙ ap Some e)) in
      omega (arith, s, w)

  pub numbers_short : length ns ≤ 2000000
  numbers_short = let l = numbers_light in let o = weighs_one design.cells ns in omega (arith, l, o)

  stub_units : (number : ℕ) → cell_units (the_stub names design hier few flat are paths number) ≤ weigh number
  stub_units number = let l = stub_light design.cells number in omega (arith, l)

  stubs_light : sum_by cell_units (map (the_stub names design hier few flat are paths) ns) ≤ 2000000
  stubs_light =
      let m = sum_mapped cell_units (the_stub names design hier few flat are paths) ns in
      let a = sum_at_most (λ number. cell_units (the_stub names design hier few flat are paths number)) weigh ns stub_units in
      let l = numbers_light in
      omega (arith, m, a, l)

  top_light : port_bits tc ≤ 2000000
  top_light =
      let s = spots_light in
      let there = map_there (λ (s : Spot). s.cell) flat.spots 0 (top_spot design.top) (spot_facts design.cells design.top flat.spots are.are_spots).first in
      let p = part_of_sum weigh (map (λ (s : Spot). s.cell) flat.spots) 0 design.top there in
      let l = stub_light design.cells design.top in
      omega (arith, s, p, l)

  -- the pins of the leaves
  leaves_once : StandOnce ls
  leaves_once = once_filter (λ leaf. not (eqb leaf 0)) flat.leaves (λ i j n e f. elim (nat_order i j) as (λ _. i ≡ j) [
    | inl lt ↦ absurd (let less = are.are_leaves.in_order i j n n lt e f in omega (arith, less))
    | inr (inl same) ↦ same
    | inr (inr lt) ↦ absurd (let less = are.are_leaves.in_order j i n n lt f e in omega (arith, less))
  ])
    where
      nat_order : (a b : ℕ) → (a < b) ⊎ ((a ≡ b) ⊎ (b < a))
      nat_order a b = grind arith

  leaves_light : sum_by (λ leaf. weigh (cell_at flat.spots leaf)) ls ≤ 2000000
  leaves_light =
      let s = spots_light in
      let all = inner_spots in
      let w = sum_within (λ leaf. weigh (cell_at flat.spots leaf)) ls (range_with_len 0 (length flat.spots)) leaves_once all in
      let m = sum_mapped weigh (cell_at flat.spots) (range_with_len 0 (length flat.spots)) in
      let r = ap (sum_by weigh) (cells_read flat.spots) in
      omega (arith, s, w, m, r)
    where
      inner_spots : (leaf : ℕ) → Contains ls leaf → Contains (range_with_len 0 (length flat.spots)) leaf
      inner_spots leaf c =
          let b : get_or ls c.0 leaf < length flat.spots = inner_within names design flat are c.0 leaf c.1 in
          let e : get_or ls c.0 leaf ≡ leaf = c.2 in
          let z : 0 + leaf ≡ leaf = omega arith in
          subst (Contains (range_with_len 0 (length flat.spots))) z (in_range_list (length flat.spots) 0 leaf (omega (arith, b, e)))

  abbrev pins : ℕ → List Terminal
  pins leaf = bits_of_ports (λ port bit. Pin leaf port bit) 0 (ports_at design.cells flat.spots leaf)

  pins_few : length (flat_map pins ls) ≤ 2000000
  pins_few =
      let f = length-flat_map pins ls in
      let a = sum_at_most (λ leaf. length (pins leaf)) (λ leaf. weigh (cell_at flat.spots leaf)) ls (λ leaf.
      let b = bits_length (λ port bit. Pin leaf port bit) 0 (ports_at design.cells flat.spots leaf) in
      let l = pins_light design.cells flat.spots leaf in
      omega (arith, b, l)) in
      let l = leaves_light in
      omega (arith, f, a, l)

  bits_few : length (bits_of_ports (λ port bit. Port port bit) 0 (ports_at design.cells flat.spots 0)) ≤ 2000000
  bits_few =
      let b = bits_length (λ port bit. Port port bit) 0 (ports_at design.cells flat.spots 0) in
      let l = pins_light design.cells flat.spots 0 in
      let s = spots_light in
      let there = map_there (λ (s : Spot). s.cell) flat.spots 0 (top_spot design.top) (spot_facts design.cells design.top flat.spots are.are_spots).first in
      let at : cell_at flat.spots 0 ≡ design.top = ap (λ o. option_map_or (λ (s : Spot). s.cell) o 0) (spot_facts design.cells design.top flat.spots are.are_spots).first in
      let e = ap weigh at in
      let p = part_of_sum weigh (map (λ (s : Spot). s.cell) flat.spots) 0 design.top there in
      omega (arith, b, l, s, e, p)

  pub terminals_few : length flat.terminals ≤ 4000002
  terminals_few =
      let e = ap length are.are_terminals in
      let a = length-append (bits_of_ports (λ port bit. Port port bit) 0 (ports_at design.cells flat.spots 0) ++ flat_map pins ls) (Zero ∷ One ∷ []) in
      let b = length-append (bits_of_ports (λ port bit. Port port bit) 0 (ports_at design.cells flat.spots 0)) (flat_map pins ls) in
      let p = pins_few in
      let q = bits_few in
      omega (arith, e, a, b, p, q)

  -- the nets and joins
  nets_few : length tc.nets ≤ 4000002
  nets_few =
      let n = length-map-range_with_len numbered_net 0 (length (wired flat)) in
      let f = filtered_few (λ members. leb 2 (length members)) (map (places_of flat.groups) (range_with_len 0 flat.count)) in
      let l = length-map-range_with_len (places_of flat.groups) 0 flat.count in
      let g = groups_few flat.groups flat.count (length flat.terminals) are.are_numbers in
      let t = terminals_few in
      omega (arith, n, f, l, g, t)

  joins_few : length tc.joins ≤ 4000002
  joins_few =
      let j = joins_long flat.terminals ls 0 (wired flat) in
      let f = sum_filtered (λ (members : List ℕ). length members) (λ members. leb 2 (length members)) (map (places_of flat.groups) (range_with_len 0 flat.count)) in
      let m = members_few flat.groups flat.count in
      let t = terminals_few in
      let l = are.are_numbers.len in
      omega (arith, j, f, m, t, l)

  pub units_few : units (cells names design hier few flat are paths) ≤ 33554432
  units_few =
      let a = sum_by-append cell_units (map (the_stub names design hier few flat are paths) ns) (tc ∷ []) in
      let c = sum_by-cons cell_units tc [] in
      let f = stubs_light in
      let t = top_light in
      let n = nets_few in
      let j = joins_few in
      omega (arith, a, c, f, t, n, j)
