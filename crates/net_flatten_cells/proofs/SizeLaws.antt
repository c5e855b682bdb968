-- how large the flattened design is: the spots and their port bits are at most the flat count
use Rattle.std.proofs.Common.{◌≡◌, ℕ, zero, suc, ◌+◌, ◌<◌, ◌≤◌, List, [], ◌∷◌, ◌++◌, refl, sym, ap, subst, slice_get, Option, Some, None, length, map, sum_by, filter, Bool, arith}
use Rattle.std.proofs.lemmas.List.{length-map}
use Rattle.std.proofs.lemmas.List.Sums.{count_by-le-length, length-filter, sum_by-cons}
use Rattle.std.proofs.lemmas.Option.{slice_get_within}
use Rattle.flat_classes.proofs.FlatSumLaws.{counted}
use Rattle.flat_classes.specs.FlatSums.{IsFewFlat, flat_count, flat_sum}
use Rattle.flat_classes.specs.Terminals.{AreLeaves, IsLeafSpot}
use Rattle.flat_numbers.proofs.Linking.{contains_there}
use Rattle.flat_numbers.specs.Spots.{AreSpots, Walks, ends, lists, spots_below}
use Rattle.flat_numbers.specs.declared.spots.Spot.{Spot}
use Rattle.net_hier.proofs.PathLaws.{element_there, same_element}
use Rattle.net_hier.specs.Constants.{ConstantNames}
use Rattle.net_hier.specs.Design.{Design, IsCell, below_of}
use Rattle.net_hier.specs.FlatCount.{FlatCountEach, an_instance, no_instance, of_cell}
use Rattle.net_hier.specs.Units.{port_bits}
use Rattle.net_hier.specs.Valid.{IsValid}
use Rattle.net_hier.specs.declared.cells.HCell.{HCell}
use Rattle.net_hier.specs.declared.cells.HInst.{HInst}

-- the port bits of a cell, where there is one
abbrev pub bits_of : Option HCell → ℕ
bits_of None = 0
bits_of (Some cell) = port_bits cell

-- one and the port bits of the cell of this number
abbrev pub weight : List HCell → ℕ → ℕ
weight cells number = 1 + bits_of (slice_get cells number)

abbrev cells_of : List Spot → List ℕ
cells_of spots = map (λ s. s.cell) spots

below_cells : (parent place : ℕ) (instances : List HInst) → cells_of (spots_below parent place instances) ≡ map (λ i. i.cell) instances
below_cells parent place [] = refl
below_cells parent place (instance ∷ rest) = ap (λ w. instance.cell ∷ w) (below_cells parent (suc place) rest)

map_both : {A B : Type 0} (f : A → B) (xs ys : List A) → map f (xs ++ ys) ≡ map f xs ++ map f ys
map_both f [] ys = refl
map_both f (x ∷ xs) ys = ap (λ w. f x ∷ w) (map_both f xs ys)

each_both : {cells : List HCell} (xs ys : List ℕ) (m n : ℕ) → FlatCountEach cells xs m → FlatCountEach cells ys n → FlatCountEach cells (xs ++ ys) (m + n)
each_both {cells = cells} [] ys m n no_instance k = let e : n ≡ 0 + n = omega arith in subst (FlatCountEach cells ys) e k
each_both {cells = cells} (x ∷ xs) ys m n (an_instance {count = a} {more = more} h rest) k =
    let e : a + (more + n) ≡ (a + more) + n = omega arith in
    subst (FlatCountEach cells (x ∷ (xs ++ ys))) e (an_instance h (each_both xs ys more n rest k))

-- what is counted of the first of the cells that wait, and of the others
record Apart (cells : List HCell) (number : ℕ) (rest : List ℕ) (cell : HCell) (count : ℕ) : Type 0 where
  below : ℕ
  is_below : FlatCountEach cells (below_of cell) below
  more : ℕ
  is_more : FlatCountEach cells rest more
  total : (1 + port_bits cell) + (below + more) ≤ count

apart : {cells : List HCell} (number : ℕ) (rest : List ℕ) (cell : HCell) (count : ℕ) → IsCell cells number cell → FlatCountEach cells (number ∷ rest) count → Apart cells number rest cell count
apart {cells = cells} number rest cell count is (an_instance {more = more} (of_cell {below = below} {cell = other} is_other each) others) =
    let same : other ≡ cell = same_element cells number other cell is_other is in
    let bits : port_bits other ≡ port_bits cell = ap port_bits same in
    record { below = below; is_below = subst (λ (w : HCell). FlatCountEach cells (below_of w) below) same each; more = more; is_more = others; total = omega (arith, bits) }

pub walk_weighs : {cells : List HCell} {number : ℕ} {waiting spots : List Spot} → Walks cells number waiting spots → (count : ℕ) → FlatCountEach cells (cells_of waiting) count → sum_by (weight cells) (cells_of spots) ≤ count
walk_weighs ends count each = omega arith
walk_weighs {cells = cells} (lists {number = number} {spot = spot} {cell = cell} {waiting = waiting} {after = after} is rest) count each =
    let a : Apart cells spot.cell (cells_of waiting) cell count = apart spot.cell (cells_of waiting) cell count is each in
    let below : FlatCountEach cells (cells_of (spots_below number 0 cell.instances)) a.below = subst (λ w. FlatCountEach cells w a.below) (sym (below_cells number 0 cell.instances)) a.is_below in
    let both : FlatCountEach cells (cells_of (spots_below number 0 cell.instances ++ waiting)) (a.below + a.more) =
    subst (λ w. FlatCountEach cells w (a.below + a.more)) (sym (map_both (λ s. s.cell) (spots_below number 0 cell.instances) waiting)) (each_both (cells_of (spots_below number 0 cell.instances)) (cells_of waiting) a.below a.more below a.is_more) in
    let later = walk_weighs rest (a.below + a.more) both in
    let own : weight cells spot.cell ≡ 1 + port_bits cell = ap (λ o. 1 + bits_of o) is in
    let sum = sum_by-cons (weight cells) spot.cell (cells_of after) in
    let total = a.total in
    omega (arith, later, own, sum, total)

few_sum : (design : Design) → IsFewFlat design → flat_sum (length design.cells) design.cells design.top ≤ 2000000
unfolding flat_count
few_sum design few = omega (arith, few)

-- the spots weigh no more than the limit of the flat count
pub spots_weigh : (design : Design) → IsValid design → IsFewFlat design → (spots : List Spot) → AreSpots design spots → sum_by (weight design.cells) (cells_of spots) ≤ 2000000
spots_weigh design valid few spots are =
    let w = walk_weighs are (flat_sum (length design.cells) design.cells design.top + 0) (an_instance (counted design valid) no_instance) in
    let f = few_sum design few in
    omega (arith, w, f)

-- each cell weighs one or more
pub weighs_one : (cells : List HCell) (numbers : List ℕ) → length numbers ≤ sum_by (weight cells) numbers
weighs_one cells [] = omega arith
weighs_one cells (number ∷ numbers) = let rest = weighs_one cells numbers in let sum = sum_by-cons (weight cells) number numbers in omega (arith, rest, sum)

pub spots_few : (design : Design) → IsValid design → IsFewFlat design → (spots : List Spot) → AreSpots design spots → length spots ≤ 2000000
spots_few design valid few spots are =
    let w = spots_weigh design valid few spots are in
    let l = weighs_one design.cells (cells_of spots) in
    let m = length-map spots (λ (s : Spot). s.cell) in
    omega (arith, w, l, m)

-- ---- the leaves

-- numbers that rise are no less than their places
places_least : (numbers : List ℕ) → ((i j a b : ℕ) → i < j → slice_get numbers i ≡ Some a → slice_get numbers j ≡ Some b → a < b) → (place number : ℕ) → slice_get numbers place ≡ Some number → place ≤ number
places_least numbers rise zero number is = omega arith
places_least numbers rise (suc place) number is =
    let lt = slice_get_within numbers (suc place) number is in
    let (before, there) = element_there numbers place (omega (arith, lt)) in
    let le = places_least numbers rise place before there in
    let less = rise place (suc place) before number (omega arith) there is in
    omega (arith, le, less)

rising_few : (numbers : List ℕ) (bound : ℕ) → ((i j a b : ℕ) → i < j → slice_get numbers i ≡ Some a → slice_get numbers j ≡ Some b → a < b) → ((i a : ℕ) → slice_get numbers i ≡ Some a → a < bound) → length numbers ≤ bound
rising_few [] bound rise below = omega arith
rising_few (number ∷ rest) bound rise below =
    let (last, there) = element_there (number ∷ rest) (length rest) (omega arith) in
    let le = places_least (number ∷ rest) rise (length rest) last there in
    let less = below (length rest) last there in
    omega (arith, le, less)

pub leaves_few : (names : ConstantNames) (cells : List HCell) (spots : List Spot) (leaves : List ℕ) → AreLeaves names cells spots leaves → length leaves ≤ length spots
leaves_few names cells spots leaves are = rising_few leaves (length spots) are.in_order (λ i a e. let h : IsLeafSpot names cells spots a = (are.are a).0 (contains_there leaves i a e) in slice_get_within spots a h.of_cell.spot h.of_cell.is_spot)

pub filtered_few : {A : Type 0} (test : A → Bool) (xs : List A) → length (filter test xs) ≤ length xs
filtered_few test xs = let e = length-filter test xs in let l = count_by-le-length test xs in omega (arith, e, l)
