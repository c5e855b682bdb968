-- places in runs: a bit of a port has one place, and a number is one spot's
use Rattle.std.proofs.Common.{◌≡◌, ℕ, zero, suc, ◌+◌, ◌<◌, ◌≤◌, ◌⊎◌, inl, inr, List, [], ◌∷◌, refl, ◌∙◌, ap, slice_get, Some, length, sum_by, arith}
use Rattle.net_hier.specs.Cells.{width_of}
use Rattle.net_hier.specs.Design.{IsCell}
use Rattle.net_hier.specs.declared.cells.HCell.{HCell}
use Rattle.net_hier.specs.declared.cells.HPort.{HPort}
use Rattle.flat_numbers.specs.Numbers.{AreBases, CellOf, IsPlace, port_place, net_place, bits_before, numbers_of}
use Rattle.net_hier.specs.declared.nodes.Node.{Node}
use Rattle.net_hier.specs.declared.nodes.Node.TheVariants.{Port, Net}
use Rattle.flat_numbers.specs.declared.spots.Spot.{Spot}
use Rattle.std.proofs.lemmas.List.Sums.{sum_by-cons}
use Rattle.std.proofs.lemmas.Option.{slice_get_within}
use Rattle.net_hier.proofs.PathLaws.{element_there}

abbrev pub width : HPort → ℕ
width port = width_of port.range

sum_first : (first : HPort) (ports : List HPort) → sum_by width (first ∷ ports) ≡ width first + sum_by width ports
sum_first first ports = sum_by-cons width first ports

pub bit_within : (ports : List HPort) (p : ℕ) (port : HPort) (bit : ℕ) → slice_get ports p ≡ Some port → bit < width port → bits_before ports p + bit < sum_by width ports
bit_within [] p port bit e lt = absurd (cc)
bit_within (first ∷ ports) zero port bit e lt = let same : first ≡ port = cc in let w : width first ≡ width port = ap width same in omega (arith, w, lt, sum_first first ports)
bit_within (first ∷ ports) (suc p) port bit e lt = omega (arith, bit_within ports p port bit e lt, sum_first first ports)

pub bit_once : (ports : List HPort) (p q : ℕ) (a b : HPort) (x y : ℕ) → slice_get ports p ≡ Some a → slice_get ports q ≡ Some b → x < width a → y < width b → bits_before ports p + x ≡ bits_before ports q + y → (p ≡ q) × (x ≡ y)
bit_once [] p q a b x y e f lx ly same = absurd (cc)
bit_once (first ∷ ports) zero zero a b x y e f lx ly same = (refl, omega arith)
bit_once (first ∷ ports) zero (suc q) a b x y e f lx ly same = let h : first ≡ a = cc in let w : width first ≡ width a = ap width h in absurd (omega (arith, w, lx, same))
bit_once (first ∷ ports) (suc p) zero a b x y e f lx ly same = let h : first ≡ b = cc in let w : width first ≡ width b = ap width h in absurd (omega (arith, w, ly, same))
bit_once (first ∷ ports) (suc p) (suc q) a b x y e f lx ly same =
    let (i, j) = bit_once ports p q a b x y e f lx ly (omega (arith, same)) in
    (ap suc i, j)

at_or_before : (less more : ℕ) → less < suc more → (less ≡ more) ⊎ (less < more)
at_or_before less more lt = grind arith

in_order : (a b : ℕ) → (a < b) ⊎ ((a ≡ b) ⊎ (b < a))
in_order a b = grind arith

pub less_length : (cells : List HCell) (spots : List Spot) (n : ℕ) (cell : HCell) → CellOf cells spots n cell → n ≤ length spots
less_length cells spots n cell of = let l : n < length spots = slice_get_within spots n of.spot of.is_spot in omega arith

-- a node of a cell has one place, below the number of places
pub place_within : (cell : HCell) (node : Node) (place : ℕ) → IsPlace cell node place → place < numbers_of cell
place_within cell node place (port_place {port = port} {bit = bit} is) = omega (arith, bit_within cell.ports port is.the_port bit is.is_there is.within)
place_within cell node place (net_place lt) = omega (arith, lt)

pub place_once : (cell : HCell) (x y : Node) (a b : ℕ) → IsPlace cell x a → IsPlace cell y b → a ≡ b → x ≡ y
place_once cell x y a b (port_place {port = p} {bit = i} is) (port_place {port = q} {bit = j} js) same =
    let (e, f) = bit_once cell.ports p q is.the_port js.the_port i j is.is_there js.is_there is.within js.within same in
    ap (λ w. Port w i) e ∙ ap (Port q) f
place_once cell x y a b (port_place {port = p} {bit = i} is) (net_place lt) same = absurd (omega (arith, same, bit_within cell.ports p is.the_port i is.is_there is.within))
place_once cell x y a b (net_place lt) (port_place {port = q} {bit = j} js) same = absurd (omega (arith, same, bit_within cell.ports q js.the_port j js.is_there js.within))
place_once cell x y a b (net_place {net = m} l) (net_place {net = n} k) same = let e : m ≡ n = omega (arith, same) in ap Net e

pub one_place : (cell : HCell) (x : Node) (a b : ℕ) → IsPlace cell x a → IsPlace cell x b → a ≡ b
one_place cell x a b (port_place is) (port_place js) = refl
one_place cell x a b (net_place is) (net_place js) = refl

module _ (cells : List HCell) (spots : List Spot) (base : ℕ → ℕ) (count : ℕ) (bases : AreBases cells spots base count) (known : (number : ℕ) (spot : Spot) → slice_get spots number ≡ Some spot → (cell : HCell) × IsCell cells spot.cell cell) where
  -- later spots begin after
  pub base_after : (less more : ℕ) (cell : HCell) → CellOf cells spots less cell → less < more → more ≤ length spots → base less + numbers_of cell ≤ base more
  base_after less zero cell of lt le = absurd (omega arith)
  base_after less (suc more) cell of lt le = elim (at_or_before less more lt) [
    | inl same ↦
        let e : base (suc less) ≡ base less + numbers_of cell = bases.next less of.spot cell of.is_spot of.is_cell in
        let f : base (suc less) ≡ base (suc more) = ap (λ n. base (suc n)) same in
        omega (arith, e, f)
    | inr before ↦
        let (spot, is_spot) = element_there spots more (omega arith) in
        let (other, is_other) = known more spot is_spot in
        let e : base (suc more) ≡ base more + numbers_of other = bases.next more spot other is_spot is_other in
        omega (arith, e, base_after less more cell of before (omega arith))
  ]

  pub base_least : (number : ℕ) → number ≤ length spots → 2 ≤ base number
  base_least zero le = omega (arith, bases.first)
  base_least (suc number) le =
      let (spot, is_spot) = element_there spots number (omega arith) in
      let (other, is_other) = known number spot is_spot in
      let e : base (suc number) ≡ base number + numbers_of other = bases.next number spot other is_spot is_other in
      omega (arith, e, base_least number (omega arith))

  pub number_least : (number : ℕ) (cell : HCell) → CellOf cells spots number cell → 2 ≤ base number
  number_least number cell of = let lt : number < length spots = slice_get_within spots number of.spot of.is_spot in base_least number (omega arith)

  pub number_within : (number : ℕ) (cell : HCell) (x : ℕ) → CellOf cells spots number cell → x < numbers_of cell → base number + x < count
  number_within number cell x of lt =
      let l : number < length spots = slice_get_within spots number of.spot of.is_spot in
      omega (arith, base_after number (length spots) cell of l (omega arith), bases.last, lt)

  -- a number is one spot's, at one place
  pub number_once : (a b : ℕ) (acell bcell : HCell) (x y : ℕ) → CellOf cells spots a acell → CellOf cells spots b bcell → x < numbers_of acell → y < numbers_of bcell → base a + x ≡ base b + y → (a ≡ b) × (x ≡ y)
  number_once a b acell bcell x y of_a of_b lx ly same = elim (in_order a b) [
    | inl lt ↦ absurd (omega (arith, base_after a b acell of_a lt (less_length cells spots b bcell of_b), lx, same))
    | inr (inl e) ↦ let f : base a ≡ base b = ap base e in (e, omega (arith, f, same))
    | inr (inr lt) ↦ absurd (omega (arith, base_after b a bcell of_b lt (less_length cells spots a acell of_a), ly, same))
  ]
