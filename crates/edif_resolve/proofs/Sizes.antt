-- What stands in a file is not greater than the file.
use Rattle.std.proofs.Common.{◌≡◌, ℕ, suc, zero, ◌+◌, ◌<◌, ◌≤◌, List, [], ◌∷◌, ◌++◌, map, length, take, get_or, Option, Some, None, sym, ap, ◌∙◌, subst, arith}
use Rattle.std.specs.Borrow.{Bor}
use Rattle.std.proofs.lemmas.List.{get_or-map, length-map}
use Rattle.std.specs.Prelude.{sum_by}
use Rattle.std.specs.List.{AllByRecursion, cons_option, filter_map, flat_map}
use Rattle.std.proofs.lemmas.List.Sums.{get_or-le-sum_by, sum_by-cons, sum_by-take-le}
use Rattle.edif_values.specs.Sizes.{cell_size, edif_size, file_item_size, library_item_size, library_size, list_size}
use Rattle.edif_values.specs.declared.cell.Cell.{Cell}
use Rattle.edif_values.specs.declared.file.EdifFile.{EdifFile}
use Rattle.edif_values.specs.declared.file.FileItem.{FileItem}
use Rattle.edif_values.specs.declared.file.FileItem.TheVariants as file_items
use Rattle.edif_values.specs.declared.library.Library.{Library}
use Rattle.edif_values.specs.declared.library.LibraryItem.{LibraryItem}
use Rattle.edif_values.specs.declared.library.LibraryItem.TheVariants as library_items
use Rattle.edif_design.specs.Parts.{cell_in, cells_in, libraries_in, library_in}
use Rattle.edif_design.specs.References.{all_cells, place_in}
use Rattle.edif_design.specs.Tables.{place_of, places_from, seen}
use Rattle.edif_design.specs.declared.tables.PlacedCell.{PlacedCell}
use Rattle.edif_design.proofs.Small.{few_cells}

-- what holds of each item of a list holds of the one at a place
pub all_at : {A : Type 0} (P : A → Type 0) (xs : List A) (i : ℕ) (d : A) → AllByRecursion P xs → i < length xs → P (get_or xs i d)
all_at P [] i d h lt = absurd (omega arith)
all_at P (x ∷ xs) zero d h lt = h.0
all_at P (x ∷ xs) (suc i) d h lt = all_at P xs i d h.1 (omega arith)

all_append : {A : Type 0} (P : A → Type 0) (xs ys : List A) → AllByRecursion P xs → AllByRecursion P ys → AllByRecursion P (xs ++ ys)
all_append P [] ys h g = g
all_append P (x ∷ xs) ys h g = (h.0, all_append P xs ys h.1 g)

one_item : {A : Type 0} (size : A → ℕ) (x : A) (xs : List A) → list_size size (x ∷ xs) ≡ size x + suc (list_size size xs)
one_item size x xs = let e : sum_by size (x ∷ xs) ≡ size x + sum_by size xs = sum_by-cons size x xs in omega (arith, e)

libraries_small : (m : ℕ) (items : List FileItem) → list_size file_item_size items ≤ m → AllByRecursion (λ library. library_size library ≤ m) (libraries_in items)
libraries_small m [] h = tt
libraries_small m (file_items.Library library ∷ items) h = (omega (arith, h, one_item file_item_size (file_items.Library library) items), libraries_small m items (omega (arith, h, one_item file_item_size (file_items.Library library) items)))
libraries_small m (file_items.Design design ∷ items) h = libraries_small m items (omega (arith, h, one_item file_item_size (file_items.Design design) items))
libraries_small m (file_items.Status status ∷ items) h = libraries_small m items (omega (arith, h, one_item file_item_size (file_items.Status status) items))
libraries_small m (file_items.Note note ∷ items) h = libraries_small m items (omega (arith, h, one_item file_item_size (file_items.Note note) items))

in_items_small : (m : ℕ) (items : List LibraryItem) → list_size library_item_size items ≤ m → AllByRecursion (λ cell. cell_size cell ≤ m) (filter_map cell_in items)
in_items_small m [] h = tt
in_items_small m (library_items.Cell cell ∷ items) h = (omega (arith, h, one_item library_item_size (library_items.Cell cell) items), in_items_small m items (omega (arith, h, one_item library_item_size (library_items.Cell cell) items)))
in_items_small m (library_items.Status status ∷ items) h = in_items_small m items (omega (arith, h, one_item library_item_size (library_items.Status status) items))
in_items_small m (library_items.Note note ∷ items) h = in_items_small m items (omega (arith, h, one_item library_item_size (library_items.Note note) items))

-- the cells of a library are not greater than it
pub cells_small : (m : ℕ) (library : Library) → library_size library ≤ m → AllByRecursion (λ cell. cell_size cell ≤ m) (cells_in library)
cells_small m library h = in_items_small m library.items (omega (arith, h))

placed_small : (m k : ℕ) (cells : List Cell) → AllByRecursion (λ cell. cell_size cell ≤ m) cells → AllByRecursion (λ place. cell_size place.cell ≤ m) (map (place_in k) cells)
placed_small m k [] h = tt
placed_small m k (cell ∷ cells) h = (h.0, placed_small m k cells h.1)

places_small : (m k : ℕ) (libraries : List Library) → AllByRecursion (λ library. library_size library ≤ m) libraries → AllByRecursion (λ place. cell_size place.cell ≤ m) (places_from k libraries)
places_small m k [] h = tt
places_small m k (library ∷ rest) h =
    all_append (λ place. cell_size place.cell ≤ m) (map (place_in k) (cells_in library)) (places_from (k + 1) rest) (placed_small m k (cells_in library) (cells_small m library h.0)) (places_small m (k + 1) rest h.1)

-- the cells of a file are not greater than it
pub file_cells_small : (file : EdifFile) (m : ℕ) → edif_size file ≤ m → AllByRecursion (λ place. cell_size place.cell ≤ m) (all_cells file)
file_cells_small file m h = places_small m 0 (libraries_in file.items) (libraries_small m file.items h)

-- what a walk has counted before an item
pub item_small : (items : List FileItem) (i : ℕ) (x : FileItem) (m : ℕ) → i < length items → x ≡ get_or items i x → list_size file_item_size items ≤ m → file_item_size x ≤ m
item_small items i x m within is h =
    let e : file_item_size (get_or items i x) ≤ sum_by file_item_size items = get_or-le-sum_by file_item_size items i x within in
    subst (λ y. file_item_size y ≤ m) (sym is) (omega (arith, e, h))

taken_length : {A : Type 0} (xs : List A) (i : ℕ) → length (take i xs) ≤ i
taken_length [] zero = omega arith
taken_length [] (suc i) = omega arith
taken_length (x ∷ xs) zero = omega arith
taken_length (x ∷ xs) (suc i) = let e : length (take i xs) ≤ i = taken_length xs i in omega (arith, e)

taken_within : {A : Type 0} (xs : List A) (i : ℕ) → length (take i xs) ≤ length xs
taken_within [] zero = omega arith
taken_within [] (suc i) = omega arith
taken_within (x ∷ xs) zero = omega arith
taken_within (x ∷ xs) (suc i) = let e : length (take i xs) ≤ length xs = taken_within xs i in omega (arith, e)

few_some : {X Y : Type 0} (f : X → Option Y) (xs : List X) → length (filter_map f xs) ≤ length xs
few_some f [] = omega arith
few_some f (x ∷ xs) = one_less (f x) (filter_map f xs) (length xs) (few_some f xs)
  where
    one_less : {Y : Type 0} (o : Option Y) (ys : List Y) (n : ℕ) → length ys ≤ n → length (cons_option o ys) ≤ suc n
    one_less None ys n h = omega (arith, h)
    one_less (Some y) ys n h = omega (arith, h)

pub libraries_before : (items : List FileItem) (i m : ℕ) → i < length items → list_size file_item_size items ≤ m → length (libraries_in (take i items)) < m
libraries_before items i m within h =
    let a : length (libraries_in (take i items)) ≤ length (take i items) = few_some library_in (take i items) in
    let b : length (take i items) ≤ i = taken_length items i in
    omega (arith, a, b, within, h)

pub cells_counted : (items : List FileItem) (i m : ℕ) → list_size file_item_size items ≤ m → length (flat_map cells_in (libraries_in (take i items))) ≤ m
cells_counted items i m h =
    let a : length (flat_map cells_in (libraries_in (take i items))) ≤ list_size file_item_size (take i items) = few_cells (take i items) in
    let b : sum_by file_item_size (take i items) ≤ sum_by file_item_size items = sum_by-take-le file_item_size items i in
    let d : length (take i items) ≤ length items = taken_within items i in
    omega (arith, a, b, d, h)

-- the cells of a library that are held are few and small
module _ (library : Library) (own : List (Bor Cell)) (are : seen own ≡ cells_in library) (m : ℕ) (h : library_size library ≤ m) where
  pub own_few : length own ≤ m
  own_few =
      let a : length own ≡ length (cells_in library) = sym (length-map own (λ cell. cell.now)) ∙ ap length are in
      let b : length (cells_in library) ≤ length library.items = few_some cell_in library.items in
      omega (arith, a, b, h)

  pub own_small : (k : ℕ) (d : Bor Cell) → k < length own → cell_size (get_or own k d).now ≤ m
  own_small k d lt =
      let inside : k < length (seen own) = subst (λ n. k < n) (sym (length-map own (λ cell. cell.now))) lt in
      let e : get_or (seen own) k d.now ≡ (get_or own k d).now = get_or-map (λ cell. cell.now) own k d d.now lt in
      subst (λ cell. cell_size cell ≤ m) e (all_at (λ cell. cell_size cell ≤ m) (seen own) k d.now (subst (AllByRecursion (λ cell. cell_size cell ≤ m)) (sym are) (cells_small m library h)) inside)

-- a cell at a place that is held is small
pub place_small : (file : EdifFile) (places : List PlacedCell) → map place_of places ≡ all_cells file → (m : ℕ) → edif_size file ≤ m → (i : ℕ) (x : PlacedCell) → i < length places → x ≡ get_or places i x → cell_size x.cell.now ≤ m
place_small file places are m h i x within is =
    let inside : i < length (map place_of places) = subst (λ n. i < n) (sym (length-map places place_of)) within in
    let e : get_or (map place_of places) i (place_of x) ≡ place_of x = get_or-map place_of places i x (place_of x) within ∙ ap place_of (sym is) in
    subst (λ place. cell_size place.cell ≤ m) e (all_at (λ place. cell_size place.cell ≤ m) (map place_of places) i (place_of x) (subst (AllByRecursion (λ place. cell_size place.cell ≤ m)) (sym are) (file_cells_small file m h)) inside)
