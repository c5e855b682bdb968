-- The cells of the design, one after the other.
use Rattle.std.proofs.Common.{◌≡◌, ℕ, zero, suc, ◌+◌, ◌<◌, ◌≤◌, Bool, true, false, cond, List, [], ◌∷◌, ◌++◌, map, length, take, filter, get_or, slice_get, Option, Some, refl, sym, ap, ◌∙◌, subst, arith}
use Rattle.std.specs.Prelude.{option_map}
use Rattle.std.specs.Borrow.{Bor}
use Rattle.std.specs.List.{enumerate_from, flat_map}
use Rattle.std.proofs.lemmas.List.{append-nil, get_or-map, length-map, map-append, take_more}
use Rattle.std.proofs.lemmas.List.Elements.{filter-append}
use Rattle.std.proofs.lemmas.Grind.{flat_map-append}
use Rattle.std.proofs.lemmas.Bool.{false≢true}
use Rattle.std.proofs.lemmas.Option.{slice_get-get_or, slice_get-map}
use Rattle.edif_lookup.proofs.ListLaws.{enumerate_more}
use Rattle.edif_values.specs.Names.{original}
use Rattle.edif_values.specs.Sizes.{cell_size, edif_size}
use Rattle.edif_values.specs.declared.cell.Cell.{Cell}
use Rattle.edif_values.specs.declared.file.Design.{Design}
use Rattle.edif_values.specs.declared.file.EdifFile.{EdifFile}
use Rattle.net_hier.specs.declared.cells.HCell.{HCell}
use Rattle.net_hier.specs.declared.cells.HProp.{HProp}
use Rattle.edif_design.specs.CellRules.{has_good_sizes}
use Rattle.edif_design.specs.Design.{cell_value, design_properties, edif_cells, edif_top, number_in, numbers_in_design}
use Rattle.edif_design.specs.FileRules.{refusals}
use Rattle.edif_design.specs.Parts.{instances}
use Rattle.edif_design.specs.Reach.{is_reached}
use Rattle.edif_design.specs.References.{CellPlace, all_cells, cell_meant, file_cells, linked_cell, number_meant, numbers_meant, top}
use Rattle.edif_design.specs.Tables.{place_of, seen}
use Rattle.edif_design.specs.declared.tables.PlacedCell.{PlacedCell}
use Rattle.edif_resolve.proofs.Clean.{map_get, ports_clean, reached_clean, top_there}
use Rattle.edif_resolve.proofs.Linking.{instance_above, number_some}
use Rattle.edif_resolve.proofs.Numbers.{meant_stands}
use Rattle.edif_resolve.proofs.Recursion.{all_get}
use Rattle.edif_resolve.proofs.Renumbering.{below_reached}
use Rattle.edif_resolve.proofs.Sizes.{file_cells_small}
use Rattle.edif_resolve.proofs.Widths.{good_sizes}

-- the values of the reached cells among the first places of a file
abbrev pub cells_so_far : EdifFile → List ℕ → List CellPlace → List HCell
cells_so_far file numbers places = map (λ item. cell_value numbers (linked_cell file item.1)) (filter (λ item. is_reached file item.0) (enumerate_from 0 places))

-- one more place
pub cells_more : (file : EdifFile) (numbers : List ℕ) (places : List PlacedCell) → map place_of places ≡ all_cells file → (i : ℕ) (x : PlacedCell) → i < length places → x ≡ get_or places i x → (old new : List HCell)
    → old ≡ cells_so_far file numbers (take i (all_cells file)) → new ≡ old ++ cond (is_reached file i) (cell_value numbers (linked_cell file (place_of x)) ∷ []) [] → new ≡ cells_so_far file numbers (take (i + 1) (all_cells file))
cells_more file numbers places are i x within is old new is_old is_new =
    let inside : i < length (all_cells file) = subst (λ ps. i < length ps) are (subst (λ n. i < n) (sym (length-map places place_of)) within) in
    let at : get_or (all_cells file) i (place_of x) ≡ place_of x = ap (λ ps. get_or ps i (place_of x)) (sym are) ∙ (get_or-map place_of places i x (place_of x) within ∙ ap place_of (sym is)) in
    let more : enumerate_from 0 (take (i + 1) (all_cells file)) ≡ enumerate_from 0 (take i (all_cells file)) ++ (i, place_of x) ∷ [] =
    enumerate_more 0 (all_cells file) i (place_of x) inside ∙ (λ j. enumerate_from 0 (take i (all_cells file)) ++ ((let e : 0 + i ≡ i = omega arith in e) j, at j) ∷ []) in
    is_new
    ∙ (ap (λ cells. cells ++ cond (is_reached file i) (cell_value numbers (linked_cell file (place_of x)) ∷ []) []) is_old
    ∙ (ap (λ cells. cells_so_far file numbers (take i (all_cells file)) ++ cells) (one (is_reached file i))
    ∙ (sym (map-append {A = ℕ × CellPlace} (λ item. cell_value numbers (linked_cell file item.1)) (filter (λ item. is_reached file item.0) (enumerate_from 0 (take i (all_cells file)))) (filter (λ item. is_reached file item.0) ((i, place_of x) ∷ [])))
    ∙ (ap (map {A = ℕ × CellPlace} (λ item. cell_value numbers (linked_cell file item.1))) (sym (filter-append (λ item. is_reached file item.0) (enumerate_from 0 (take i (all_cells file))) ((i, place_of x) ∷ [])))
    ∙ ap (λ items. map {A = ℕ × CellPlace} (λ item. cell_value numbers (linked_cell file item.1)) (filter (λ item. is_reached file item.0) items)) (sym more)))))
  where
    one : (b : Bool) → cond b (cell_value numbers (linked_cell file (place_of x)) ∷ []) [] ≡ map {A = ℕ × CellPlace} (λ item. cell_value numbers (linked_cell file item.1)) (cond b ((i, place_of x) ∷ []) [])
    one true = refl
    one false = refl

pub all_taken : {A : Type 0} (xs : List A) (i : ℕ) → length xs ≤ i → take i xs ≡ xs
all_taken [] zero h = refl
all_taken [] (suc i) h = refl
all_taken (x ∷ xs) zero h = absurd (omega arith)
all_taken (x ∷ xs) (suc i) h = ap (λ ys. x ∷ ys) (all_taken xs i (omega arith))

-- all places
pub cells_done : (file : EdifFile) (numbers : List ℕ) (places : List PlacedCell) → map place_of places ≡ all_cells file → (i : ℕ) → length places ≤ i → numbers ≡ numbers_in_design file → (made : List HCell)
    → made ≡ cells_so_far file numbers (take i (all_cells file)) → made ≡ edif_cells file
unfolding edif_cells
cells_done file numbers places are i h is_numbers made is =
    let long : length (all_cells file) ≤ i = subst (λ ps. length ps ≤ i) are (subst (λ n. n ≤ i) (sym (length-map places place_of)) h) in
    is ∙ (ap (cells_so_far file numbers) (all_taken (all_cells file) i long) ∙ ap (λ ns. cells_so_far file ns (all_cells file)) is_numbers)

-- the place at an index stands in the file
pub place_stands : (file : EdifFile) (places : List PlacedCell) → map place_of places ≡ all_cells file → (i : ℕ) (x : PlacedCell) → i < length places → x ≡ get_or places i x → slice_get (all_cells file) i ≡ Some (place_of x)
place_stands file places are i x within is =
    ap (λ ps. slice_get ps i) (sym are) ∙ (slice_get-map place_of places i ∙ ap (option_map place_of) (slice_get-get_or places i x within ∙ ap Some (sym is)))

module _ (file : EdifFile) (clean : refusals file ≡ []) where
  -- a reached cell has good sizes
  pub own_good : (n : ℕ) (place : CellPlace) → slice_get (all_cells file) n ≡ Some place → is_reached file n ≡ true → has_good_sizes place.cell ≡ true
  own_good n place e reached = good_sizes (original place.cell.name) place.cell (ports_clean file place (reached_clean file clean n place e reached))

  -- and so have the cells of its instances
  pub inner_good : (n : ℕ) (place : CellPlace) → slice_get (all_cells file) n ≡ Some place → is_reached file n ≡ true → (below : List (Option ℕ)) → below ≡ numbers_meant file place
      → (i number : ℕ) (inner : Cell) → slice_get below i ≡ Some (Some number) → slice_get (file_cells file) number ≡ Some inner → has_good_sizes inner ≡ true
  inner_good n place e reached below is i number inner g h =
      let from = map_get (λ u. number_meant (cell_meant file place.library u)) (instances place.cell) i (Some number) (ap (λ ns. slice_get ns i) (sym is) ∙ g) in
      let meant = number_some (cell_meant file place.library from.0) number from.1.1 in
      let found : ℕ × CellPlace = meant.0 in
      let t = top_there file clean in
      let old : slice_get (all_cells file) found.0 ≡ Some found.1 = meant_stands file place.library from.0.library from.0.cell found meant.1.0 in
      let r : is_reached file found.0 ≡ true = below_reached file t.0 t.1 n found.0 reached (instance_above file n place i from.0 found e from.1.0 meant.1.0) in
      let cell : slice_get (file_cells file) number ≡ Some found.1.cell = ap (slice_get (file_cells file)) (sym meant.1.1) ∙ (slice_get-map (λ p. p.cell) (all_cells file) found.0 ∙ ap (option_map (λ p. p.cell)) old) in
      let same : inner ≡ found.1.cell = cc in
      ap has_good_sizes same ∙ own_good found.0 found.1 old r

-- a cell that stands in a file is not greater than it
pub cell_within : (file : EdifFile) (m n : ℕ) (place : CellPlace) → edif_size file ≤ m → slice_get (all_cells file) n ≡ Some place → cell_size place.cell ≤ m
cell_within file m n place h e = all_get (λ p. cell_size p.cell ≤ m) (all_cells file) n place (file_cells_small file m h) e

-- one more design's properties
pub properties_more : (those : List (Bor Design)) (i : ℕ) (x : Bor Design) → i < length those → x ≡ get_or those i x → (old new : List HProp) → old ≡ flat_map design_properties (seen (take i those)) → new ≡ old ++ design_properties x.now
    → new ≡ flat_map design_properties (seen (take (i + 1) those))
properties_more those i x within is old new is_old is_new =
    is_new
    ∙ (ap (λ props. props ++ design_properties x.now) is_old
    ∙ (ap (λ y. flat_map design_properties (seen (take i those)) ++ design_properties y.now) is
    ∙ sym (ap (flat_map design_properties) (ap seen (take_more those i x within) ∙ map-append (λ d. d.now) (take i those) (get_or those i x ∷ []))
    ∙ (flat_map-append design_properties (seen (take i those)) ((get_or those i x).now ∷ []) ∙ ap (λ props. flat_map design_properties (seen (take i those)) ++ props) (append-nil (design_properties (get_or those i x).now))))))

-- the number of the top in the design
pub top_is : (file : EdifFile) (numbers : List ℕ) → numbers ≡ numbers_in_design file → number_in numbers (number_meant (top file)) ≡ edif_top file
unfolding edif_top
top_is file numbers e = ap (λ ns. number_in ns (number_meant (top file))) e

-- one cell is added where it is reached
pub one_added : (b : Bool) (value : HCell) → b ≡ true → value ∷ [] ≡ cond b (value ∷ []) []
one_added true value h = refl
one_added false value h = absurd (false≢true h)
