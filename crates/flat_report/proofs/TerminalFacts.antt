-- the terminals, and the places of groups
use Rattle.std.proofs.Common.{◌≡◌, ℕ, zero, suc, ◌+◌, ◌<◌, inl, inr, List, [], ◌∷◌, ◌++◌, refl, sym, ◌∙◌, ap, subst, slice_get, get_or, drop, Some, Bool, cond, true, false, not, ◌==◌, length, map, filter, arith}
use Rattle.std.specs.Prelude.{Contains, slice_index_or}
use Rattle.std.specs.List.{range_with_len}
use Rattle.std.proofs.lemmas.List.{length-map}
use Rattle.std.proofs.lemmas.Option.{slice_get-get_or}
use Rattle.std.proofs.lemmas.List.Elements.{Contains-append_cases}
use Rattle.net_hier.specs.Cells.{IsPortBit, width_of}
use Rattle.net_hier.specs.Constants.{ConstantNames}
use Rattle.net_hier.specs.Design.{Design, IsCell}
use Rattle.net_hier.specs.declared.cells.HCell.{HCell}
use Rattle.net_hier.specs.declared.cells.HPort.{HPort}
use Rattle.flat_numbers.specs.Numbers.{CellOf}
use Rattle.flat_numbers.specs.declared.spots.Spot.{Spot}
use Rattle.flat_numbers.proofs.Linking.{contains_there}
use Rattle.flat_numbers.proofs.SpotLaws.{SpotFacts, listed_cells, spot_facts}
use Rattle.flat_classes.specs.Terminals.{AreFlatClasses, FlatValue, IsLeafSpot, bits_of_ports, cell_of, ports_at, terminals_of}
use Rattle.flat_classes.specs.declared.flat.Terminal.{Terminal}
use Rattle.flat_classes.specs.declared.flat.Terminal.TheVariants.{Port, Pin, Zero, One}
use Rattle.flat_classes.proofs.KindLaws.{first_or_rest, from_flat, nothing_in}
use Rattle.flat_classes.proofs.LeafLists.{from_bits, from_filter}
use Rattle.flat_classes.proofs.TerminalLaws.{ports_read}
use Rattle.edif_writer.specs.Strings.{quoted}
use Rattle.net_hier.specs.Paths.{Path}
use Rattle.flat_numbers.specs.Spots.{Walks, top_spot}
use Rattle.flat_report.specs.Report.{name_then, terminal_then, terminals_then}
use Rattle.flat_classes.specs.Ways.{IsTerminal, a_port, a_pin, is_zero, is_one}

module _ (names : ConstantNames) (design : Design) (flat : FlatValue) (are : AreFlatClasses names design flat) where
  facts : SpotFacts design.cells design.top flat.spots
  facts = spot_facts design.cells design.top flat.spots are.are_spots

  bit_there : (spot : ℕ) (cell : HCell) → CellOf design.cells flat.spots spot cell → (i : ℕ) (port : HPort) (bit : ℕ) → slice_get (ports_at design.cells flat.spots spot) i ≡ Some port → bit < width_of port.range → IsPortBit cell i bit
  bit_there spot cell of i port bit e lt = record { the_port = port; is_there = subst (λ ps. slice_get ps i ≡ Some port) (ports_read design.cells flat.spots spot cell of) e; within = lt }

  zero_first : (i : ℕ) → i ≡ 0 + i
  zero_first i = omega arith

  -- an element of the list is a terminal of the design
  pub terminal_is : (t : Terminal) → Contains (terminals_of design.cells flat.spots flat.leaves) t → IsTerminal design.cells flat.spots t
  terminal_is t c = elim (Contains-append_cases _ (Zero ∷ One ∷ []) t c) [
    | inl front ↦ elim (Contains-append_cases _ _ t front) [
      | inl top ↦
          let (i, port, bit, there, lt, e) = from_bits (λ port bit. Port port bit) 0 (ports_at design.cells flat.spots 0) t top in
          let (cell, is) = listed_cells are.are_spots 0 _ facts.first in
          let of : CellOf design.cells flat.spots 0 cell = record { spot = _; is_spot = facts.first; is_cell = is } in
          let at : IsPortBit cell (0 + i) bit = subst (λ n. IsPortBit cell n bit) (zero_first i) (bit_there 0 cell of i port bit there lt) in
          subst (IsTerminal design.cells flat.spots) e (a_port of at)
      | inr pins ↦
          let (leaf, member, there) = from_flat (λ leaf. bits_of_ports (λ port bit. Pin leaf port bit) 0 (ports_at design.cells flat.spots leaf)) (filter (λ leaf. not (leaf == 0)) flat.leaves) t pins in
          let (in_leaves, inner) = from_filter (λ leaf. not (leaf == 0)) flat.leaves leaf member in
          let h : IsLeafSpot names design.cells flat.spots leaf = (are.are_leaves.are leaf).0 in_leaves in
          let (i, port, bit, is_port, lt, e) = from_bits (λ port bit. Pin leaf port bit) 0 (ports_at design.cells flat.spots leaf) t there in
          let at : IsPortBit h.cell (0 + i) bit = subst (λ n. IsPortBit h.cell n bit) (zero_first i) (bit_there leaf h.cell h.of_cell i port bit is_port lt) in
          subst (IsTerminal design.cells flat.spots) e (a_pin h.of_cell at)
    ]
    | inr constants ↦ elim (first_or_rest Zero (One ∷ []) t constants) [
      | inl e ↦ subst (IsTerminal design.cells flat.spots) e is_zero
      | inr rest ↦ elim (first_or_rest One [] t rest) [
        | inl e ↦ subst (IsTerminal design.cells flat.spots) e is_one
        | inr none ↦ absurd (nothing_in t none)
      ]
    ]
  ]

  pub terminal_at : (place : ℕ) (t : Terminal) → slice_get flat.terminals place ≡ Some t → IsTerminal design.cells flat.spots t
  terminal_at place t e = terminal_is t (contains_there (terminals_of design.cells flat.spots flat.leaves) place t (subst (λ ts. slice_get ts place ≡ Some t) are.are_terminals e))

-- the name of the cell at a spot
pub name_read : (cells : List HCell) (spots : List Spot) (leaf : ℕ) (spot : Spot) (cell : HCell) (name rest : List ℕ) → slice_get spots leaf ≡ Some spot → IsCell cells spot.cell cell → name ≡ cell.name → name_then (cell_of cells (slice_get spots leaf)) rest ≡ quoted name rest
name_read cells spots leaf spot cell name rest e is n = ap (λ o. name_then (cell_of cells o) rest) e ∙ (ap (λ o. name_then o rest) is ∙ ap (λ w. quoted w rest) (sym n))

-- the rest of a list, from an element on
pub drop_next : {A : Type 0} (xs : List A) (i : ℕ) (d : A) → i < length xs → drop i xs ≡ get_or xs i d ∷ drop (i + 1) xs
drop_next [] i d lt = absurd (omega (arith, lt))
drop_next (x ∷ xs) zero d lt = refl
drop_next (x ∷ xs) (suc i) d lt = let z : suc i + 1 ≡ suc (i + 1) = omega arith in drop_next xs i d (omega (arith, lt)) ∙ ap (λ n. get_or xs i d ∷ drop n (x ∷ xs)) (sym z)

-- the lines of terminals, from one on
pub terminals_next : (cells : List HCell) (spots : List Spot) (paths : List Path) (terminals read : List Terminal) (places : List ℕ) (i : ℕ) (d : Terminal) (rest : List ℕ) → read ≡ terminals → i < length places → get_or places i 0 < length terminals →
    terminals_then cells spots paths terminals (drop i places) rest ≡ terminal_then cells spots paths (Some (get_or read (get_or places i 0) d)) (terminals_then cells spots paths terminals (drop (i + 1) places) rest)
terminals_next cells spots paths terminals read places i d rest same lt there =
    ap (λ ps. terminals_then cells spots paths terminals ps rest) (drop_next places i 0 lt)
    ∙ (ap (λ o. terminal_then cells spots paths o (terminals_then cells spots paths terminals (drop (i + 1) places) rest)) (slice_get-get_or terminals (get_or places i 0) d there)
    ∙ ap (λ ts. terminal_then cells spots paths (Some (get_or ts (get_or places i 0) d)) (terminals_then cells spots paths terminals (drop (i + 1) places) rest)) (sym same))

-- the cell at a spot
pub cell_at : {cells : List HCell} {top : ℕ} {spots : List Spot} → Walks cells 0 (top_spot top ∷ []) spots → (leaf : ℕ) (d : Spot) → leaf < length spots → (cell : HCell) × IsCell cells (get_or spots leaf d).cell cell
cell_at {spots = spots} walk leaf d lt = listed_cells walk leaf (get_or spots leaf d) (slice_get-get_or spots leaf d lt)
