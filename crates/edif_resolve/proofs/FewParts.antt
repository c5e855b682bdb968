-- The design of a file has no more cells and instances than the file has items, and its cells fit.
use Rattle.std.proofs.Common.{◌≡◌, ℕ, zero, suc, ◌+◌, ◌≤◌, Bool, true, false, List, [], ◌∷◌, ◌++◌, map, length, filter, slice_get, cond, Option, Some, None, refl, sym, ap, ◌∙◌, subst, arith}
use Rattle.std.specs.Prelude.{sum_by}
use Rattle.std.specs.List.{AllByRecursion, cons_option, enumerate_from, filter_map, flat_map}
use Rattle.std.proofs.lemmas.List.{length-append, length-map}
use Rattle.std.proofs.lemmas.List.Sums.{sum_by-cons}
use Rattle.net_hier.specs.Valid.{CellsFit, HasFewParts}
use Rattle.edif_values.specs.Sizes.{cell_item_size, cell_size, contents_item_size, edif_size, list_size, view_item_size, view_size}
use Rattle.edif_values.specs.declared.cell.Cell.{Cell}
use Rattle.edif_values.specs.declared.cell.CellItem.{CellItem}
use Rattle.edif_values.specs.declared.cell.CellItem.TheVariants as cell_items
use Rattle.edif_values.specs.declared.file.EdifFile.{EdifFile}
use Rattle.edif_values.specs.declared.library.Library.{Library}
use Rattle.edif_values.specs.declared.view.ViewItem.{ViewItem}
use Rattle.edif_values.specs.declared.view.ViewItem.TheVariants as view_items
use Rattle.edif_design.specs.Design.{cell_value, edif_cells, edif_top, instance_value, numbers_in_design}
use Rattle.edif_design.specs.FileRules.{refusals}
use Rattle.edif_design.specs.Parts.{cell_contents, cells_in, contents, contents_in, instance_in, instances, libraries_in, numbered, view_in}
use Rattle.edif_design.specs.Reach.{is_reached, reached_cells}
use Rattle.edif_design.specs.References.{CellPlace, all_cells, linked_cell, place_in}
use Rattle.edif_design.specs.Tables.{places_from}
use Rattle.edif_design.proofs.Small.{few_cells}
use Rattle.edif_resolve.proofs.Clean.{top_there}
use Rattle.edif_resolve.proofs.Fitting.{all_reached, good_cells, has_top}
use Rattle.edif_resolve.proofs.Renumbering.{ComesFrom, design_from}
use Rattle.edif_resolve.proofs.Sizes.{file_cells_small}

one_item : {A : Type 0} (size : A → ℕ) (x : A) (xs : List A) → list_size size (x ∷ xs) ≡ size x + suc (list_size size xs)
one_item size x xs = let e : sum_by size (x ∷ xs) ≡ size x + sum_by size xs = sum_by-cons size x xs in omega (arith, e)

few_kept : {A : Type 0} (p : A → Bool) (xs : List A) → length (filter p xs) ≤ length xs
few_kept p [] = omega arith
few_kept {A = A} p (x ∷ xs) = by (p x) (few_kept p xs)
  where
    by : (b : Bool) → length (filter p xs) ≤ length xs → length (cond b (x ∷ filter p xs) (filter p xs)) ≤ suc (length xs)
    by true h = omega (arith, h)
    by false h = omega (arith, h)

pub few_some : {X Y : Type 0} (f : X → Option Y) (xs : List X) → length (filter_map f xs) ≤ length xs
few_some f [] = omega arith
few_some {Y = Y} f (x ∷ xs) = by (f x) (few_some f xs)
  where
    by : (o : Option Y) → length (filter_map f xs) ≤ length xs → length (cons_option o (filter_map f xs)) ≤ suc (length xs)
    by None h = omega (arith, h)
    by (Some y) h = omega (arith, h)

numbered_long : {A : Type 0} (n : ℕ) (xs : List A) → length (enumerate_from n xs) ≡ length xs
numbered_long n [] = refl
numbered_long n (x ∷ xs) = ap suc (numbered_long (n + 1) xs)

places_long : (k : ℕ) (libraries : List Library) → length (places_from k libraries) ≡ length (flat_map cells_in libraries)
places_long k [] = refl
places_long k (library ∷ rest) =
    length-append (map (place_in k) (cells_in library)) (places_from (k + 1) rest)
    ∙ ((λ j. length-map (cells_in library) (place_in k) j + places_long (k + 1) rest j) ∙ sym (length-append (cells_in library) (flat_map cells_in rest)))

-- a file has no more cells than items
pub cells_few : (file : EdifFile) (m : ℕ) → edif_size file ≤ m → length (all_cells file) ≤ m
cells_few file m h =
    let e : length (all_cells file) ≡ length (flat_map cells_in (libraries_in file.items)) = places_long 0 (libraries_in file.items) in
    let f : length (flat_map cells_in (libraries_in file.items)) ≤ edif_size file = few_cells file.items in
    omega (arith, e, f, h)

design_few : (file : EdifFile) (m : ℕ) → edif_size file ≤ m → length (edif_cells file) ≤ m
unfolding edif_cells
design_few file m h =
    let a : length (map (λ item. cell_value (numbers_in_design file) (linked_cell file item.1)) (reached_cells file)) ≡ length (reached_cells file) = length-map (reached_cells file) (λ item. cell_value (numbers_in_design file) (linked_cell file item.1)) in
    let b : length (reached_cells file) ≤ length (numbered (all_cells file)) = few_kept (λ item. is_reached file item.0) (numbered (all_cells file)) in
    let d : length (numbered (all_cells file)) ≡ length (all_cells file) = numbered_long 0 (all_cells file) in
    let e : length (all_cells file) ≡ length (flat_map cells_in (libraries_in file.items)) = places_long 0 (libraries_in file.items) in
    let f : length (flat_map cells_in (libraries_in file.items)) ≤ edif_size file = few_cells file.items in
    omega (arith, a, b, d, e, f, h)

contents_few : (items : List ViewItem) → length (flat_map contents_in items) ≤ list_size view_item_size items
contents_few [] = omega arith
contents_few (view_items.Contents inner ∷ items) =
    let a : length (inner ++ flat_map contents_in items) ≡ length inner + length (flat_map contents_in items) = length-append inner (flat_map contents_in items) in
    let b : length (flat_map contents_in items) ≤ list_size view_item_size items = contents_few items in
    let d : list_size view_item_size (view_items.Contents inner ∷ items) ≡ list_size contents_item_size inner + suc (list_size view_item_size items) = one_item view_item_size (view_items.Contents inner) items in
    omega (arith, a, b, d)
contents_few (view_items.Property property ∷ items) = let b : length (flat_map contents_in items) ≤ list_size view_item_size items = contents_few items in omega (arith, b, one_item view_item_size (view_items.Property property) items)
contents_few (view_items.Status status ∷ items) = let b : length (flat_map contents_in items) ≤ list_size view_item_size items = contents_few items in omega (arith, b, one_item view_item_size (view_items.Status status) items)
contents_few (view_items.Note note ∷ items) = let b : length (flat_map contents_in items) ≤ list_size view_item_size items = contents_few items in omega (arith, b, one_item view_item_size (view_items.Note note) items)

views_few : (items : List CellItem) → length (flat_map contents (filter_map view_in items)) ≤ list_size cell_item_size items
views_few [] = omega arith
views_few (cell_items.View view ∷ items) =
    let a : length (contents view ++ flat_map contents (filter_map view_in items)) ≡ length (contents view) + length (flat_map contents (filter_map view_in items)) = length-append (contents view) (flat_map contents (filter_map view_in items)) in
    let b : length (flat_map contents (filter_map view_in items)) ≤ list_size cell_item_size items = views_few items in
    let d : list_size cell_item_size (cell_items.View view ∷ items) ≡ view_size view + suc (list_size cell_item_size items) = one_item cell_item_size (cell_items.View view) items in
    let e : length (contents view) ≤ list_size view_item_size view.items = contents_few view.items in
    omega (arith, a, b, d, e)
views_few (cell_items.Property property ∷ items) = let b : length (flat_map contents (filter_map view_in items)) ≤ list_size cell_item_size items = views_few items in omega (arith, b, one_item cell_item_size (cell_items.Property property) items)
views_few (cell_items.Status status ∷ items) = let b : length (flat_map contents (filter_map view_in items)) ≤ list_size cell_item_size items = views_few items in omega (arith, b, one_item cell_item_size (cell_items.Status status) items)
views_few (cell_items.Note note ∷ items) = let b : length (flat_map contents (filter_map view_in items)) ≤ list_size cell_item_size items = views_few items in omega (arith, b, one_item cell_item_size (cell_items.Note note) items)

instances_few : (cell : Cell) → length (instances cell) ≤ cell_size cell
instances_few cell =
    let a : length (instances cell) ≤ length (cell_contents cell) = few_some instance_in (cell_contents cell) in
    let b : length (cell_contents cell) ≤ cell_size cell = views_few cell.items in
    omega (arith, a, b)

all_get : {A : Type 0} (P : A → Type 0) (xs : List A) (i : ℕ) (x : A) → AllByRecursion P xs → slice_get xs i ≡ Some x → P x
all_get P [] i x h e = absurd (cc)
all_get P (y ∷ xs) zero x h e = let f : y ≡ x = cc in subst P f h.0
all_get P (y ∷ xs) (suc i) x h e = all_get P xs i x h.1 e

value_instances : (file : EdifFile) (place : CellPlace) → length (cell_value (numbers_in_design file) (linked_cell file place)).instances ≡ length (instances place.cell)
unfolding cell_value
value_instances file place = length-map (numbered (instances place.cell)) (instance_value (numbers_in_design file) (linked_cell file place).below) ∙ numbered_long 0 (instances place.cell)

few_parts : (file : EdifFile) → edif_size file ≤ 268435456 → HasFewParts (edif_cells file)
few_parts file h = record {
  few_cells = design_few file 268435456 h;
  few_instances = λ number cell e.
      (let from : ComesFrom file number cell = design_from file number cell e in
      let a : length (cell_value (numbers_in_design file) (linked_cell file from.place)).instances ≡ length (instances from.place.cell) = value_instances file from.place in
      let b : length (instances from.place.cell) ≤ cell_size from.place.cell = instances_few from.place.cell in
      let d : cell_size from.place.cell ≤ 268435456 = all_get (λ place. cell_size place.cell ≤ 268435456) (all_cells file) from.old from.place (file_cells_small file 268435456 h) from.stands in
      subst (λ c. length c.instances ≤ 268435456) from.value (omega (arith, a, b, d)));
}

-- the cells of a file that breaks no rule fit
pub cells_fit : (file : EdifFile) → refusals file ≡ [] → edif_size file ≤ 268435456 → CellsFit (edif_cells file) (edif_top file)
cells_fit file clean h =
    let top = top_there file clean in
    record {
      few_parts = few_parts file h;
      has_top = has_top file clean top.0 top.1;
      good_cells = good_cells file clean top.0 top.1;
      reached = all_reached file clean top.0 top.1;
    }
