-- the numbers of terminals, and the lists of leaves and terminals
use Rattle.std.proofs.Common.{◌≡◌, ℕ, ◌+◌, ◌<◌, List, [], ◌∷◌, ◌++◌, refl, sym, ◌∙◌, ap, slice_get, get_or, Some, Option, Bool, true, false, cond, not, ◌==◌, length, take, filter, arith}
use Rattle.std.specs.List.{flat_map, range_with_len}
use Rattle.std.proofs.lemmas.List.{append-nil, append_assoc}
use Rattle.net_hier.specs.Cells.{IsPortBit}
use Rattle.net_hier.specs.Design.{Design, IsCell}
use Rattle.net_hier.specs.declared.cells.HCell.{HCell}
use Rattle.net_hier.specs.declared.nodes.Node.TheVariants.{Port as PortNode}
use Rattle.flat_numbers.specs.Layout.{base_of}
use Rattle.flat_numbers.specs.Numbers.{CellOf, NodeNumber, bits_before, of_own, port_place}
use Rattle.flat_numbers.specs.Tables.{AreTables}
use Rattle.flat_classes.specs.TerminalNumbers.{TerminalNumber, zero_number, one_number, port_number, pin_number}
use Rattle.flat_classes.specs.Terminals.{bits_of_ports, cell_of, is_leaf_spot, ports_at, ports_of}
use Rattle.flat_classes.specs.declared.flat.Terminal.{Terminal}
use Rattle.flat_classes.specs.declared.flat.Terminal.TheVariants.{Port, Pin, Zero, One}
use Rattle.flat_numbers.specs.declared.spots.Spot.{Spot}
use Rattle.flat_numbers.specs.declared.walk.Layout.{Layout}
use Rattle.flat_classes.proofs.GroupLists.{filter_range, flat_filter_taken}
use Rattle.flat_numbers.proofs.Bounds.{room}
use Rattle.flat_numbers.proofs.Places.{number_within, place_within}
use Rattle.flat_numbers.proofs.SpotLaws.{listed_cells}

-- a port bit of the cell at a spot, and its number
pub record PortAt (cells : List HCell) (spots : List Spot) (base : ℕ → ℕ) (spot port bit u : ℕ) : Type 0 where
  pub cell : HCell
  pub of_cell : CellOf cells spots spot cell
  pub is_bit : IsPortBit cell port bit
  pub node_number : NodeNumber cells spots base spot cell (PortNode port bit) u

pub port_terminal : (cells : List HCell) (spots : List Spot) (base : ℕ → ℕ) (port bit u : ℕ) → TerminalNumber cells spots base (Port port bit) u → PortAt cells spots base 0 port bit u
port_terminal cells spots base port bit u (port_number {cell = cell} of is) = record { cell = cell; of_cell = of; is_bit = is; node_number = of_own (port_place is) }

pub pin_terminal : (cells : List HCell) (spots : List Spot) (base : ℕ → ℕ) (spot port bit u : ℕ) → TerminalNumber cells spots base (Pin spot port bit) u → PortAt cells spots base spot port bit u
pin_terminal cells spots base spot port bit u (pin_number {cell = cell} of is) = record { cell = cell; of_cell = of; is_bit = is; node_number = of_own (port_place is) }

pub zero_terminal : (cells : List HCell) (spots : List Spot) (base : ℕ → ℕ) (u : ℕ) → TerminalNumber cells spots base Zero u → 0 ≡ u
zero_terminal cells spots base u zero_number = refl

pub one_terminal : (cells : List HCell) (spots : List Spot) (base : ℕ → ℕ) (u : ℕ) → TerminalNumber cells spots base One u → 1 ≡ u
one_terminal cells spots base u one_number = refl

module _ (design : Design) (count : ℕ) (layout : Layout) (belows offsets : List (List ℕ)) (tables : AreTables design.cells design.top count layout belows offsets) where
  known : (number : ℕ) (spot : Spot) → slice_get layout.spots.items number ≡ Some spot → (cell : HCell) × IsCell design.cells spot.cell cell
  known number spot e = listed_cells tables.is_layout.are_spots number spot e

  pub terminal_below : (t : Terminal) (u : ℕ) → TerminalNumber design.cells layout.spots.items (base_of layout.bases.items layout.count) t u → u < layout.count
  terminal_below t u zero_number = let r = room design count layout belows offsets tables in omega (arith, r)
  terminal_below t u one_number = let r = room design count layout belows offsets tables in omega (arith, r)
  terminal_below t u (port_number {cell = cell} {port = port} {bit = bit} of is) = number_within design.cells layout.spots.items (base_of layout.bases.items layout.count) layout.count tables.is_layout.are_bases known 0 cell (bits_before cell.ports port + bit) of (place_within cell (PortNode port bit) (bits_before cell.ports port + bit) (port_place is))
  terminal_below t u (pin_number {spot = spot} {cell = cell} {port = port} {bit = bit} of is) = number_within design.cells layout.spots.items (base_of layout.bases.items layout.count) layout.count tables.is_layout.are_bases known spot cell (bits_before cell.ports port + bit) of (place_within cell (PortNode port bit) (bits_before cell.ports port + bit) (port_place is))

-- ---- the list of leaves
pub leaves_more : (spots : List Spot) (marks : List Bool) (constants : List (Option Bool)) (number : ℕ) (spot : Spot) (b : Bool) → slice_get spots number ≡ Some spot → b ≡ is_leaf_spot marks constants (Some spot) →
    filter (λ n. is_leaf_spot marks constants (slice_get spots n)) (range_with_len 0 (number + 1)) ≡ filter (λ n. is_leaf_spot marks constants (slice_get spots n)) (range_with_len 0 number) ++ cond b (number ∷ []) []
leaves_more spots marks constants number spot b there e = filter_range (λ n. is_leaf_spot marks constants (slice_get spots n)) number b (ap (is_leaf_spot marks constants) there ∙ sym e)

-- the ports of the cell at a spot
pub ports_read : (cells : List HCell) (spots : List Spot) (number : ℕ) (cell : HCell) → CellOf cells spots number cell → ports_at cells spots number ≡ cell.ports
ports_read cells spots number cell of = ap (λ o. ports_of (cell_of cells o)) of.is_spot ∙ ap ports_of of.is_cell

abbrev pub first_leaves : List Spot → List Bool → List (Option Bool) → ℕ → List ℕ
first_leaves spots marks constants done = filter (λ n. is_leaf_spot marks constants (slice_get spots n)) (range_with_len 0 done)

pub leaf_added : (spots : List Spot) (marks : List Bool) (constants : List (Option Bool)) (number : ℕ) (spot : Spot) (b : Bool) (old new : List ℕ) → slice_get spots number ≡ Some spot → b ≡ is_leaf_spot marks constants (Some spot) → b ≡ true → new ≡ old ++ number ∷ [] →
    old ≡ first_leaves spots marks constants number → new ≡ first_leaves spots marks constants (number + 1)
leaf_added spots marks constants number spot b old new there e t n o =
    n ∙ (ap (λ w. w ++ number ∷ []) o ∙ sym (leaves_more spots marks constants number spot b there e ∙ ap (λ t. first_leaves spots marks constants number ++ cond t (number ∷ []) []) t))

pub leaf_passed : (spots : List Spot) (marks : List Bool) (constants : List (Option Bool)) (number : ℕ) (spot : Spot) (b : Bool) (old new : List ℕ) → slice_get spots number ≡ Some spot → b ≡ is_leaf_spot marks constants (Some spot) → b ≡ false → new ≡ old →
    old ≡ first_leaves spots marks constants number → new ≡ first_leaves spots marks constants (number + 1)
leaf_passed spots marks constants number spot b old new there e t n o =
    n ∙ (o ∙ (sym (append-nil (first_leaves spots marks constants number)) ∙ sym (leaves_more spots marks constants number spot b there e ∙ ap (λ t. first_leaves spots marks constants number ++ cond t (number ∷ []) []) t)))

-- ---- the list of terminals
abbrev pub pins_of : List HCell → List Spot → ℕ → List Terminal
pins_of cells spots leaf = bits_of_ports (λ port bit. Pin leaf port bit) 0 (ports_at cells spots leaf)

abbrev pub inner_pins : List HCell → List Spot → List ℕ → List Terminal
inner_pins cells spots leaves = flat_map (pins_of cells spots) (filter (λ leaf. not (leaf == 0)) leaves)

pub is_inner : (n : ℕ) → ¬ (n ≡ 0) → not (n == 0) ≡ true
is_inner n differ = grind (arith, differ)

pub is_top : (n : ℕ) → n ≡ 0 → not (n == 0) ≡ false
is_top n e = grind (arith, e)

pub pins_added : (cells : List HCell) (spots : List Spot) (leaves : List ℕ) (i : ℕ) (front old new : List Terminal) → i < length leaves → ¬ (get_or leaves i 0 ≡ 0) → new ≡ old ++ pins_of cells spots (get_or leaves i 0) →
    old ≡ front ++ inner_pins cells spots (take i leaves) → new ≡ front ++ inner_pins cells spots (take (i + 1) leaves)
pins_added cells spots leaves i front old new lt differ n o =
    let s = flat_filter_taken (pins_of cells spots) (λ leaf. not (leaf == 0)) leaves i 0 true lt (is_inner (get_or leaves i 0) differ) in
    n ∙ (ap (λ w. w ++ pins_of cells spots (get_or leaves i 0)) o ∙ (append_assoc front (inner_pins cells spots (take i leaves)) (pins_of cells spots (get_or leaves i 0)) ∙ ap (λ w. front ++ w) (sym s)))

pub pins_passed : (cells : List HCell) (spots : List Spot) (leaves : List ℕ) (i : ℕ) (front old new : List Terminal) → i < length leaves → get_or leaves i 0 ≡ 0 → new ≡ old →
    old ≡ front ++ inner_pins cells spots (take i leaves) → new ≡ front ++ inner_pins cells spots (take (i + 1) leaves)
pins_passed cells spots leaves i front old new lt e n o =
    let s = flat_filter_taken (pins_of cells spots) (λ leaf. not (leaf == 0)) leaves i 0 false lt (is_top (get_or leaves i 0) e) in
    n ∙ (o ∙ ap (λ w. front ++ w) (sym (s ∙ append-nil (inner_pins cells spots (take i leaves)))))
