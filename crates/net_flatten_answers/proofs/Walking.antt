-- The spots of a valid design are there.
use Rattle.std.proofs.Common.{◌≡◌, ℕ, zero, suc, ◌+◌, ◌≤◌, List, [], ◌∷◌, ◌++◌, refl, sym, ap, subst, length, map, arith}
use Rattle.std.proofs.lemmas.List.{map-append}
use Rattle.flat_classes.proofs.FlatSumLaws.{counted}
use Rattle.flat_classes.specs.FlatSums.{flat_sum}
use Rattle.flat_numbers.specs.Spots.{AreSpots, Walks, ends, lists, spots_below, top_spot}
use Rattle.flat_numbers.specs.declared.spots.Spot.{Spot}
use Rattle.net_hier.specs.Design.{Design}
use Rattle.net_hier.specs.FlatCount.{FlatCountEach, an_instance, no_instance, of_cell}
use Rattle.net_hier.specs.Valid.{IsValid}
use Rattle.net_hier.specs.declared.cells.HCell.{HCell}
use Rattle.net_hier.specs.declared.cells.HInst.{HInst}

abbrev cell_number : Spot → ℕ
cell_number spot = spot.cell

below_cells : (parent place : ℕ) (instances : List HInst) → map cell_number (spots_below parent place instances) ≡ map (λ instance. instance.cell) instances
below_cells parent place [] = refl
below_cells parent place (instance ∷ rest) = ap (λ w. instance.cell ∷ w) (below_cells parent (suc place) rest)

count_both : {cells : List HCell} (xs ys : List ℕ) (m n : ℕ) → FlatCountEach cells xs m → FlatCountEach cells ys n → FlatCountEach cells (xs ++ ys) (m + n)
count_both {cells = cells} [] ys m n no_instance k = let e : n ≡ 0 + n = omega arith in subst (FlatCountEach cells ys) e k
count_both {cells = cells} (x ∷ xs) ys m n (an_instance {count = a} {more = more} h rest) k =
    let e : a + (more + n) ≡ (a + more) + n = omega arith in
    subst (FlatCountEach cells (x ∷ (xs ++ ys))) e (an_instance h (count_both xs ys more n rest k))

-- a walk from spots whose cells have a count ends: each spot that it lists takes one or more from what is counted
walk_ends : {cells : List HCell} (most count number : ℕ) (waiting : List Spot) → FlatCountEach cells (map cell_number waiting) count → count ≤ most → (spots : List Spot) × Walks cells number waiting spots
walk_ends most count number [] each le = ([], ends)
walk_ends zero count number (spot ∷ waiting) (an_instance (of_cell is each) rest) le = absurd (omega (arith, le))
walk_ends {cells = cells} (suc most) count number (spot ∷ waiting) (an_instance {more = more} (of_cell {below = below} {cell = cell} is each) rest) le =
    let inner : List Spot = spots_below number 0 cell.instances in
    let of_inner : FlatCountEach cells (map cell_number inner) below = subst (λ w. FlatCountEach cells w below) (sym (below_cells number 0 cell.instances)) each in
    let of_all : FlatCountEach cells (map cell_number (inner ++ waiting)) (below + more) =
    subst (λ w. FlatCountEach cells w (below + more)) (sym (map-append cell_number inner waiting)) (count_both (map cell_number inner) (map cell_number waiting) below more of_inner rest) in
    let (after, walk) = walk_ends most (below + more) (suc number) (inner ++ waiting) of_all (omega (arith, le)) in
    (spot ∷ after, lists is walk)

pub spots_there : (design : Design) → IsValid design → (spots : List Spot) × AreSpots design spots
spots_there design valid =
    let count : ℕ = flat_sum (length design.cells) design.cells design.top in
    walk_ends (count + 0) (count + 0) 0 (top_spot design.top ∷ []) (an_instance (counted design valid) no_instance) (omega arith)
