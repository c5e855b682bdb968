-- The flat count as a function is that of the paths.
use Rattle.std.proofs.Common.{◌≡◌, ℕ, zero, suc, ◌+◌, ◌<◌, ◌≤◌, List, [], ◌∷◌, refl, sym, ap, subst, slice_get, Some, length, map, sum_by, arith}
use Rattle.std.proofs.lemmas.List.{length-map}
use Rattle.std.proofs.lemmas.List.Sums.{sum_by-cons}
use Rattle.net_graph.specs.Graph.{IsAbove}
use Rattle.net_hier.specs.Design.{Design, below_of, cells_below}
use Rattle.net_hier.specs.FlatCount.{FlatCount, FlatCountEach, of_cell, no_instance, an_instance}
use Rattle.net_hier.specs.Valid.{IsValid}
use Rattle.net_hier.specs.declared.cells.HCell.{HCell}
use Rattle.net_hier.specs.declared.cells.HInst.{HInst}
use Rattle.net_hier.proofs.PathLaws.{element_there}
use Rattle.flat_numbers.specs.FlatCounts.{IsFlatCount}
use Rattle.flat_numbers.proofs.Counting.{map_there, one_count}
use Rattle.flat_classes.specs.FlatSums.{flat_count, flat_limit, flat_sum, sum_at, IsFewFlat}
use Rattle.flat_classes.proofs.Chains.{IsChain, chain_few, chain_first, chain_next}

-- what is mapped comes of an item at its place
map_back : {A B : Type 0} (f : A → B) (xs : List A) (i : ℕ) (y : B) → slice_get (map f xs) i ≡ Some y → (x : A) × (slice_get xs i ≡ Some x) × (f x ≡ y)
map_back f [] i y e = absurd (cc)
map_back f (x ∷ xs) zero y e = (x, refl, cc)
map_back f (x ∷ xs) (suc i) y e = map_back f xs i y e

-- where each of the cells has its count, they have the sum of these
count_each : {cells : List HCell} (count : ℕ → ℕ) (numbers : List ℕ) → ((place number : ℕ) → slice_get numbers place ≡ Some number → FlatCount cells number (count number)) → FlatCountEach cells numbers (sum_by count numbers)
count_each count [] each = no_instance
count_each {cells = cells} count (number ∷ numbers) each =
    subst (FlatCountEach cells (number ∷ numbers)) (sym (sum_by-cons count number numbers))
    (an_instance (each 0 number refl) (count_each count numbers (λ place other e. each (suc place) other e)))

module _ (design : Design) (valid : IsValid design) where
  abbrev graph : List (List ℕ)
  graph = cells_below design.cells

  many : length graph ≡ length design.cells
  many = length-map design.cells below_of

  -- the count of each cell to which a chain leads, where so many more cells fill it
  counts : (levels : ℕ) (chain : List ℕ) (number : ℕ) → IsChain graph chain number → length design.cells < levels + length chain → number < length design.cells → FlatCount design.cells number (flat_sum levels design.cells number)
  counts zero chain number is more lt = absurd (omega (arith, chain_few is, many, more))
  counts (suc levels) chain number is more lt =
      let (cell, of_number) = element_there design.cells number lt in
      let below : (place inner : ℕ) → slice_get (below_of cell) place ≡ Some inner → FlatCount design.cells inner (flat_sum levels design.cells inner) = λ place inner e.
      let (instance, there, same) = map_back (λ (i : HInst). i.cell) cell.instances place inner e in
      let less : inner < length design.cells = subst (λ n. n < length design.cells) same ((valid.good_cells number cell of_number).instances_in_range place instance there) in
      let above : IsAbove graph number inner = record { numbers = below_of cell; are_below = map_there below_of design.cells number cell of_number; place = place; is_there = e } in
      counts levels (inner ∷ chain) inner (chain_next graph chain number inner (valid.no_recursion number) above (omega (arith, less, many)) is) (omega (arith, more)) less in
      subst (FlatCount design.cells number) (ap (sum_at (flat_sum levels design.cells)) (sym of_number)) (of_cell of_number (count_each (flat_sum levels design.cells) (below_of cell) below))

  -- the sum over all paths is that over the paths of fewer instances than there are cells
  pub counted : FlatCount design.cells design.top (flat_sum (length design.cells) design.cells design.top)
  counted = counts (length design.cells) (design.top ∷ []) design.top (chain_first graph design.top (let l = valid.has_top in omega (arith, l, many))) (omega arith) valid.has_top

  pub count_is : (count : ℕ) → IsFlatCount design count → count ≡ flat_count design.cells design.top
  unfolding flat_count
  count_is count of_paths = let e = one_count counted of_paths.is_count in omega (arith, e, of_paths.is)

  pub is_count : (count : ℕ) → count ≡ flat_count design.cells design.top → IsFlatCount design count
  unfolding flat_count
  is_count count e = record { exact = flat_sum (length design.cells) design.cells design.top; is_count = counted; is = e }

  -- within the limit the count of the paths is that of the cells and the top
  pub few_flat : (count : ℕ) → IsFlatCount design count → count ≤ flat_limit → IsFewFlat design
  few_flat count of_paths few = subst (λ n. n ≤ flat_limit) (count_is count of_paths) few
