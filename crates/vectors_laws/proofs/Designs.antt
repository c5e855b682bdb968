-- The design of a generated file has all its cells.
use Rattle.std.proofs.Common.{arith, ◌≡◌, ℕ, zero, suc, ◌+◌, ◌-◌, ◌<◌, ◌≤◌, ◌^◌, Bool, true, false, List, [], ◌∷◌, get_or, length, map, refl, sym, ap, ◌∙◌, subst}
use Rattle.std.specs.Prelude.{codes, slice_get}
use Rattle.std.specs.List.{range_with_len}
use Rattle.std.proofs.lemmas.List.{length-map}
use Rattle.std.proofs.lemmas.List.FromFn.{length-map-range_with_len}
use Rattle.edif_values.specs.declared.file.EdifFile.{EdifFile}
use Rattle.edif_values.specs.Directions.{direction_of, told}
use Rattle.edif_design.specs.Design.{cell_value, edif_cells, edif_properties, edif_top, number_in, numbers_in_design}
use Rattle.edif_design.specs.Reach.{is_reached, reached_marks}
use Rattle.edif_design.specs.References.{CellPlace, all_cells, linked_cell, number_meant, place_in}
use Rattle.edif_resolve.proofs.Linking.{instance_above}
use Rattle.edif_resolve.proofs.Renumbering.{below_reached, top_reached}
use Rattle.edif_written.proofs.Cells.{map_numbered}
use Rattle.net_graph.proofs.MarkLaws.{marked_within}
use Rattle.net_hier.specs.declared.cells.HCell.{HCell}
use Rattle.vectors.specs.Cells.{cell, instance}
use Rattle.vectors.specs.Files.{cells_of, generated}
use Rattle.vectors.specs.Numbers.{is_swapped}
use Rattle.vectors_laws.specs.Designs.{cell_above, design_cell, design_cells, first_cell}
use Rattle.vectors_laws.proofs.Files.{all_cells_are, linked, linked_is, meant, place_there, top_is, two_instances}
use Rattle.vectors_laws.proofs.Lists.{all_counted, all_pass, map_map, range_same}

-- ---- the value of a cell

first_value : (numbers : List ℕ) (seed : ℕ) → cell_value numbers (record { cell = cell seed 0; below = [] }) ≡ first_cell
unfolding cell_value direction_of told
first_value numbers seed = refl

above_value : (numbers : List ℕ) (seed count : ℕ) (small : count ≤ 2 ^ 64) (swapped : Bool) (below : ℕ) → get_or numbers below 0 ≡ below → cell_value numbers (linked seed count small swapped below) ≡ cell_above swapped below
unfolding cell_value direction_of told
above_value numbers seed count small true below same = λ j. record {
  name = (cell_above true below).name;
  ports = (cell_above true below).ports;
  instances = record { name = codes "a"; cell = same j; props = [] } ∷ (record { name = codes "b"; cell = same j; props = [] } ∷ []);
  nets = (cell_above true below).nets;
  joins = (cell_above true below).joins;
  props = [];
}
above_value numbers seed count small false below same = λ j. record {
  name = (cell_above false below).name;
  ports = (cell_above false below).ports;
  instances = record { name = codes "a"; cell = same j; props = [] } ∷ (record { name = codes "b"; cell = same j; props = [] } ∷ []);
  nets = (cell_above false below).nets;
  joins = (cell_above false below).joins;
  props = [];
}

module _ (seed count : ℕ) (small : count ≤ 2 ^ 64) (some : 0 < count) where
  abbrev file : EdifFile
  file = generated seed count

  abbrev last : ℕ
  last = count - 1

  last_within : last < count
  last_within = omega (arith, some)

  abbrev start : ℕ × CellPlace
  start = (last, place_in 0 (cell seed last))

  -- ---- reach

  one_down : (below : ℕ) → suc below < count → is_reached file (suc below) ≡ true → is_reached file below ≡ true
  one_down below lt reached =
      let inner : below < count = omega (arith, lt) in
      below_reached file start (top_is seed count small last last_within refl) (suc below) below reached
      (instance_above file (suc below) (place_in 0 (cell seed (suc below))) 0 (instance (codes "a") below) (below, place_in 0 (cell seed below)) (place_there seed count small (suc below) lt)
      (ap (λ l. slice_get l 0) (two_instances (is_swapped seed (suc below)) below)) (meant seed count small (codes "a") below inner))

  down : (distance k : ℕ) → k + distance ≡ last → is_reached file k ≡ true
  down zero k is = subst (λ m. is_reached file m ≡ true) (let e : last ≡ k = omega (arith, is) in e) (top_reached file start (top_is seed count small last last_within refl))
  down (suc distance) k is = one_down k (omega (arith, is, some)) (down distance (suc k) (omega (arith, is)))

  pub all_reached : (k : ℕ) → k < count → is_reached file k ≡ true
  all_reached k lt = down (last - k) k (omega (arith, lt))

  same_number : (k : ℕ) → k < count → get_or (numbers_in_design file) k 0 ≡ k
  same_number k lt =
      all_counted (reached_marks file) 0 k (marked_within (reached_marks file) k (all_reached k lt)) (λ m h. all_reached m (omega (arith, h, lt)))
      ∙ (let e : 0 + k ≡ k = omega arith in e)

  -- ---- the cells

  value_at : (k : ℕ) → k < count → cell_value (numbers_in_design file) (linked_cell file (place_in 0 (cell seed k))) ≡ design_cell seed k
  value_at zero lt = first_value (numbers_in_design file) seed
  value_at (suc below) lt =
      ap (cell_value (numbers_in_design file)) (linked_is seed count small (is_swapped seed (suc below)) below (omega (arith, lt)))
      ∙ above_value (numbers_in_design file) seed count small (is_swapped seed (suc below)) below (same_number below (omega (arith, lt)))

  many : length (all_cells file) ≡ count
  many = ap length (all_cells_are seed count small) ∙ (length-map (cells_of seed count) (place_in 0) ∙ length-map-range_with_len (cell seed) 0 count)

  abbrev value : CellPlace → HCell
  value place = cell_value (numbers_in_design file) (linked_cell file place)

  pub cells_are : edif_cells file ≡ design_cells seed count
  unfolding edif_cells
  cells_are =
      ap (map (λ item. value item.1)) (all_pass (is_reached file) 0 (all_cells file) (λ k lt. let e : 0 + k ≡ k = omega arith in subst (λ m. is_reached file m ≡ true) (sym e) (all_reached k (let m = many in omega (arith, lt, m)))))
      ∙ (map_numbered value 0 (all_cells file)
      ∙ (ap (map value) (all_cells_are seed count small)
      ∙ (map_map value (place_in 0) (cells_of seed count)
      ∙ (map_map (λ c. value (place_in 0 c)) (cell seed) (range_with_len 0 count)
      ∙ range_same (λ k. value (place_in 0 (cell seed k))) (design_cell seed) 0 count (λ k lt. let e : 0 + k ≡ k = omega arith in subst (λ m. value (place_in 0 (cell seed m)) ≡ design_cell seed m) (sym e) (value_at k lt))))))

  pub top_number : edif_top file ≡ last
  unfolding edif_top
  top_number = ap (λ o. number_in (numbers_in_design file) (number_meant o)) (top_is seed count small last last_within refl) ∙ same_number last last_within

  pub no_properties : edif_properties file ≡ []
  unfolding generated
  no_properties = refl
