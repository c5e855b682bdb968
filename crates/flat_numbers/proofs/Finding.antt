-- the tables find the numbers of the nodes
use Rattle.std.proofs.Common.{◌≡◌, ℕ, ◌+◌, ◌^◌, ◌<◌, ◌≤◌, List, refl, sym, ◌∙◌, ap, subst, subst₂, slice_get, get_or, Some, [], length, arith, true, false}
use Rattle.std.proofs.lemmas.Option.{get_or_from_slice_get, slice_get-get_or, slice_get_within}
use Rattle.net_hier.specs.Constants.{ConstantNames}
use Rattle.net_hier.specs.Cells.{IsPinBit, IsPortBit}
use Rattle.net_hier.specs.Units.{port_bits}
use Rattle.net_hier.specs.Design.{Design, IsCell}
use Rattle.net_hier.specs.Valid.{IsNode, IsValid}
use Rattle.net_hier.specs.declared.cells.HCell.{HCell}
use Rattle.net_hier.specs.declared.cells.HPort.{HPort}
use Rattle.net_hier.specs.declared.nodes.Node.{Node}
use Rattle.net_hier.specs.declared.nodes.Node.TheVariants.{Port, Pin, Net, Zero, One}
use Rattle.net_hier.proofs.PathLaws.{same_element}
use Rattle.flat_numbers.specs.Layout.{IsLayout, base_of}
use Rattle.flat_numbers.specs.Numbers.{CellOf, IsBelow, IsPlace, port_place, net_place, NodeNumber, of_zero, of_one, of_own, of_pin, bits_before}
use Rattle.flat_numbers.specs.Tables.{AreTables, HasNumber, HasPlace}
use Rattle.flat_numbers.specs.declared.spots.Spot.{Spot}
use Rattle.flat_numbers.specs.declared.walk.Layout.{Layout}
use Rattle.flat_numbers.proofs.NumberLaws.{bit_no_constant, bit_no_pin, node_number}
use Rattle.flat_numbers.proofs.Reading.{element_read}
use Rattle.flat_numbers.proofs.Offsets.{bits_all}
use Rattle.flat_numbers.proofs.PathSpots.{next_spot}
use Rattle.flat_numbers.proofs.Places.{number_within, place_within}
use Rattle.flat_numbers.proofs.SpotLaws.{SpotFacts, listed_cells, spot_facts, spot_of}

bit_place : (cell : HCell) (port bit place : ℕ) → IsPlace cell (Port port bit) place → place ≡ bits_before cell.ports port + bit
bit_place cell port bit place (port_place is) = refl

module _ (cells : List HCell) (spots : List Spot) (base : ℕ → ℕ) (number : ℕ) (cell : HCell) where
  pub zero_is : (u : ℕ) → NodeNumber cells spots base number cell Zero u → 0 ≡ u
  zero_is u of_zero = refl
  zero_is u (of_own {node = node} {place = a} p) = absurd (bit_no_constant cell false node a p refl)

  pub one_is : (u : ℕ) → NodeNumber cells spots base number cell One u → 1 ≡ u
  one_is u of_one = refl
  one_is u (of_own {node = node} {place = a} p) = absurd (bit_no_constant cell true node a p refl)

  pub port_is : (port bit u : ℕ) → NodeNumber cells spots base number cell (Port port bit) u → u ≡ base number + (bits_before cell.ports port + bit)
  port_is port bit u (of_own (port_place is)) = refl

  pub has_port : (port bit u : ℕ) → NodeNumber cells spots base number cell (Port port bit) u → IsPortBit cell port bit
  has_port port bit u (of_own (port_place is)) = is

  pub net_is : (net u : ℕ) → NodeNumber cells spots base number cell (Net net) u → u ≡ base number + (port_bits cell + net)
  net_is net u (of_own (net_place lt)) = refl

  -- what the number of a pin bit is
  pub record PinIs (instance port bit u : ℕ) : Type 0 where
    pub pin : IsPinBit cells cell instance port bit
    pub inner : ℕ
    pub below : IsBelow spots number instance inner
    pub u_is : u ≡ base inner + (bits_before pin.below.ports port + bit)

  pub pin_is : (instance port bit u : ℕ) → NodeNumber cells spots base number cell (Pin instance port bit) u → PinIs instance port bit u
  pin_is instance port bit u (of_pin {inner = inner} {place = place} pin below p) = record { pin = pin; inner = inner; below = below; u_is = ap (λ w. base inner + w) (bit_place pin.below port bit place p) }
  pin_is instance port bit u (of_own {node = node} {place = a} p) = absurd (bit_no_pin cell instance port bit node a p refl)

module _ (design : Design) (valid : IsValid design) (count : ℕ) (few : count ≤ 2000000) (layout : Layout) (belows offsets : List (List ℕ)) (tables : AreTables design.cells design.top count layout belows offsets) where
  abbrev pub spots : List Spot
  spots = layout.spots.items

  abbrev pub base : ℕ → ℕ
  base = base_of layout.bases.items layout.count

  facts : SpotFacts design.cells design.top spots
  facts = spot_facts design.cells design.top spots tables.is_layout.are_spots

  known : (number : ℕ) (spot : Spot) → slice_get spots number ≡ Some spot → (cell : HCell) × IsCell design.cells spot.cell cell
  known number spot e = listed_cells tables.is_layout.are_spots number spot e

  place_there : (number : ℕ) (cell : HCell) → CellOf design.cells spots number cell → (port bit : ℕ) → port ≤ length cell.ports → HasPlace spots layout.bases.items offsets number port bit (base number + (bits_before cell.ports port + bit))
  place_there number cell of port bit le =
      let (row, is_row, at) = tables.are_offsets of.spot.cell cell of.is_cell in
      let lt : number < length spots = slice_get_within spots number of.spot of.is_spot in
      record {
        spot = of.spot;
        is_spot = of.is_spot;
        base = base number;
        is_base = slice_get-get_or layout.bases.items number layout.count (omega (arith, lt, tables.is_layout.len));
        offset = bits_before cell.ports port;
        is_offset = record { the_row = row; is_row = is_row; is_there = at port le };
        is_value = refl;
      }

  place_fits : (number : ℕ) (cell : HCell) (node : Node) (place : ℕ) → CellOf design.cells spots number cell → IsPlace cell node place → base number + place < 2 ^ 32
  place_fits number cell node place of is =
      let l = number_within design.cells spots base layout.count tables.is_layout.are_bases known number cell place of (place_within cell node place is) in
      omega (arith, l, tables.is_layout.few, few)

  abbrev pub IsFound : ℕ → ℕ → ℕ → Type 0
  IsFound number port bit = (value : ℕ) × HasPlace spots layout.bases.items offsets number port bit value × (value < 2 ^ 32)

  pub port_found : (number : ℕ) (cell : HCell) (port bit : ℕ) → CellOf design.cells spots number cell → IsPortBit cell port bit → IsFound number port bit
  port_found number cell port bit of is =
      let lt : port < length cell.ports = slice_get_within cell.ports port is.the_port is.is_there in
      (base number + (bits_before cell.ports port + bit), place_there number cell of port bit (omega arith), place_fits number cell (Port port bit) (bits_before cell.ports port + bit) of (port_place is))

  pub net_found : (number : ℕ) (cell : HCell) (net ports : ℕ) → CellOf design.cells spots number cell → net < length cell.nets → ports ≡ length cell.ports → IsFound number ports net
  net_found number cell net ports of lt e =
      let fits = place_fits number cell (Net net) (port_bits cell + net) of (net_place lt) in
      let b : bits_before cell.ports ports ≡ port_bits cell = ap (bits_before cell.ports) e ∙ bits_all cell.ports in
      (base number + (bits_before cell.ports ports + net), place_there number cell of ports net (omega (arith, e)), omega (arith, fits, b))

  -- the spot of a pin's cell, in the table
  pub record PinFound (number instance port bit : ℕ) : Type 0 where
    pub inner : ℕ
    pub in_table : HasNumber belows number instance inner
    pub found : IsFound inner port bit

  pub pin_found : (number : ℕ) (cell : HCell) (instance port bit : ℕ) → CellOf design.cells spots number cell → IsPinBit design.cells cell instance port bit → PinFound number instance port bit
  pin_found number cell instance port bit of pin =
      let (inner, is, below) = next_spot design valid spots facts number cell instance pin.the_instance of pin.is_there in
      let b : IsBelow spots number instance inner = record { spot = spot_of number instance pin.the_instance; is_spot = is; no_top = below.no_top; of_parent = refl; of_instance = refl } in
      let of_inner : CellOf design.cells spots inner pin.below = record { spot = spot_of number instance pin.the_instance; is_spot = is; is_cell = pin.is_below } in
      record { inner = inner; in_table = tables.are_belows number instance inner b; found = port_found inner pin.below port bit of_inner pin.is_bit }

  -- what is found is the number
  module _ (number : ℕ) (cell : HCell) (of : CellOf design.cells spots number cell) where
    pub port_number : (port bit u result : ℕ) → IsPortBit cell port bit → NodeNumber design.cells spots base number cell (Port port bit) u →
        ((value : ℕ) → HasPlace spots layout.bases.items offsets number port bit value → result ≡ value) → result ≡ u
    port_number port bit u result is n found =
        let lt : port < length cell.ports = slice_get_within cell.ports port is.the_port is.is_there in
        found (base number + (bits_before cell.ports port + bit)) (place_there number cell of port bit (omega arith)) ∙ sym (port_is design.cells spots base number cell port bit u n)

    pub net_number : (net ports u result : ℕ) → ports ≡ length cell.ports → NodeNumber design.cells spots base number cell (Net net) u →
        ((value : ℕ) → HasPlace spots layout.bases.items offsets number ports net value → result ≡ value) → result ≡ u
    net_number net ports u result e n found =
        let b : bits_before cell.ports ports ≡ port_bits cell = ap (bits_before cell.ports) e ∙ bits_all cell.ports in
        found (base number + (bits_before cell.ports ports + net)) (place_there number cell of ports net (omega (arith, e))) ∙ (ap (λ w. base number + (w + net)) b ∙ sym (net_is design.cells spots base number cell net u n))

    pub pin_number : (instance port bit u result inner : ℕ) → HasNumber belows number instance inner → NodeNumber design.cells spots base number cell (Pin instance port bit) u →
        ((value : ℕ) → HasPlace spots layout.bases.items offsets inner port bit value → result ≡ value) → result ≡ u
    pin_number instance port bit u result inner in_table n found =
        let p : PinIs design.cells spots base number cell instance port bit u = pin_is design.cells spots base number cell instance port bit u n in
        let q : HasNumber belows number instance p.inner = tables.are_belows number instance p.inner p.below in
        let same_row : in_table.the_row ≡ q.the_row = same_element belows number in_table.the_row q.the_row in_table.is_row q.is_row in
        let e : inner ≡ p.inner = same_element q.the_row instance inner p.inner (subst (λ r. slice_get r instance ≡ Some inner) same_row in_table.is_there) q.is_there in
        let (next, is, below) = next_spot design valid spots facts number cell instance p.pin.the_instance of p.pin.is_there in
        let f : next ≡ p.inner = facts.once next p.inner (spot_of number instance p.pin.the_instance) p.below.spot below.no_top p.below.no_top is p.below.is_spot (sym p.below.of_parent) (sym p.below.of_instance) in
        let of_inner : CellOf design.cells spots p.inner p.pin.below = record { spot = spot_of number instance p.pin.the_instance; is_spot = subst (λ m. slice_get spots m ≡ Some (spot_of number instance p.pin.the_instance)) f is; is_cell = p.pin.is_below } in
        let lt : port < length p.pin.below.ports = slice_get_within p.pin.below.ports port p.pin.is_bit.the_port p.pin.is_bit.is_there in
        found (base p.inner + (bits_before p.pin.below.ports port + bit)) (subst (λ m. HasPlace spots layout.bases.items offsets m port bit (base p.inner + (bits_before p.pin.below.ports port + bit))) (sym e) (place_there p.inner p.pin.below of_inner port bit (omega arith))) ∙ sym p.u_is

-- the names do not matter for the numbers
pub any_names : ConstantNames
any_names = record { zero = record { cell = []; port = [] }; one = record { cell = []; port = [] } }

module _ (design : Design) (valid : IsValid design) (count : ℕ) (few : count ≤ 2000000) (layout : Layout) (belows offsets : List (List ℕ)) (tables : AreTables design.cells design.top count layout belows offsets) where
  -- what is found for each number is the number
  pub number_got : (number : ℕ) (cell : HCell) (node : Node) (result : ℕ) → CellOf design.cells layout.spots.items number cell → IsNode design.cells cell node →
      ((other : HCell) (u : ℕ) → CellOf design.cells layout.spots.items number other → NodeNumber design.cells layout.spots.items (base_of layout.bases.items layout.count) number other node u → result ≡ u) →
      NodeNumber design.cells layout.spots.items (base_of layout.bases.items layout.count) number cell node result
  number_got number cell node result of is found =
      let (u, n) = node_number any_names design valid layout.spots.items (spot_facts design.cells design.top layout.spots.items tables.is_layout.are_spots) (base_of layout.bases.items layout.count) layout.count tables.is_layout.are_bases number cell node of is in
      subst (NodeNumber design.cells layout.spots.items (base_of layout.bases.items layout.count) number cell node) (sym (found cell u of n)) n

  pub read_within : (number : ℕ) (spot : Spot) (all : List HCell) → number < length layout.spots.items → all ≡ design.cells → spot ≡ get_or layout.spots.items number spot → spot.cell < length all
  read_within number spot all lt same e =
      let there : slice_get layout.spots.items number ≡ Some spot = element_read layout.spots.items number spot lt e in
      let (cell, is) = listed_cells tables.is_layout.are_spots number spot there in
      slice_get_within all spot.cell cell (subst (λ cs. slice_get cs spot.cell ≡ Some cell) (sym same) is)

  pub cell_read : (number : ℕ) (spot : Spot) (all : List HCell) (read : HCell) → number < length layout.spots.items → all ≡ design.cells → spot ≡ get_or layout.spots.items number spot → read ≡ get_or all spot.cell read → CellOf design.cells layout.spots.items number read
  cell_read number spot all read lt same e f =
      let there : slice_get layout.spots.items number ≡ Some spot = element_read layout.spots.items number spot lt e in
      let (cell, is) = listed_cells tables.is_layout.are_spots number spot there in
      let l : spot.cell < length all = slice_get_within all spot.cell cell (subst (λ cs. slice_get cs spot.cell ≡ Some cell) (sym same) is) in
      record { spot = spot; is_spot = there; is_cell = subst (λ cs. slice_get cs spot.cell ≡ Some read) same (element_read all spot.cell read l f) }

-- what the code has read
pub ports_there : (cells : List HCell) (spots : List Spot) (number : ℕ) (cell : HCell) → CellOf cells spots number cell → (spot : Spot) (all : List HCell) (read : HCell) (ports : List HPort) → all ≡ cells → spot ≡ get_or spots number spot → read ≡ get_or all spot.cell read → ports ≡ read.ports →
    length ports ≡ length cell.ports
ports_there cells spots number cell of spot all read ports same e f g =
    let p : spot ≡ of.spot = e ∙ get_or_from_slice_get spots number of.spot spot of.is_spot in
    let is : slice_get all spot.cell ≡ Some cell = subst₂ (λ (s : Spot) (cs : List HCell). slice_get cs s.cell ≡ Some cell) (sym p) (sym same) of.is_cell in
    let q : read ≡ cell = f ∙ get_or_from_slice_get all spot.cell cell read is in
    ap length g ∙ ap (λ (w : HCell). length w.ports) q

pub cell_within : (cells : List HCell) (spots : List Spot) (number : ℕ) (cell : HCell) → CellOf cells spots number cell → (spot : Spot) (all : List HCell) → all ≡ cells → spot ≡ get_or spots number spot → spot.cell < length all
cell_within cells spots number cell of spot all same e =
    let p : spot ≡ of.spot = e ∙ get_or_from_slice_get spots number of.spot spot of.is_spot in
    slice_get_within all spot.cell cell (subst₂ (λ (s : Spot) (cs : List HCell). slice_get cs s.cell ≡ Some cell) (sym p) (sym same) of.is_cell)

-- the cell of a spot that the code has read
pub cell_there_at : (cells : List HCell) (top count : ℕ) (layout : Layout) → IsLayout cells top count layout → (number : ℕ) (spot : Spot) → number < length layout.spots.items → spot ≡ get_or layout.spots.items number spot → (cell : HCell) × IsCell cells spot.cell cell × (slice_get layout.spots.items number ≡ Some spot)
cell_there_at cells top count layout is number spot lt e =
    let there : slice_get layout.spots.items number ≡ Some spot = element_read layout.spots.items number spot lt e in
    let (cell, is_cell) = listed_cells is.are_spots number spot there in
    (cell, is_cell, there)
