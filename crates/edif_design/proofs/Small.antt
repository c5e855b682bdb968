-- The numbers of libraries and cells of a file are not greater than its size.
use Rattle.std.proofs.Common.{◌≡◌, ℕ, ◌+◌, ◌≤◌, List, [], ◌∷◌, ◌++◌, length, suc, Option, Some, None, arith}
use Rattle.std.specs.Prelude.{sum_by}
use Rattle.std.specs.List.{cons_option, filter_map, flat_map}
use Rattle.std.proofs.lemmas.List.{length-append}
use Rattle.std.proofs.lemmas.List.Sums.{sum_by-cons}
use Rattle.edif_values.specs.Sizes.{file_item_size, library_item_size, library_size, list_size}
use Rattle.edif_values.specs.declared.file.FileItem.{FileItem}
use Rattle.edif_values.specs.declared.file.FileItem.TheVariants as file_items
use Rattle.edif_values.specs.declared.library.Library.{Library}
use Rattle.edif_design.specs.Parts.{cell_in, cells_in, libraries_in, library_in}

one_less : {Y : Type 0} (o : Option Y) (ys : List Y) (n : ℕ) → length ys ≤ n → length (cons_option o ys) ≤ suc n
one_less None ys n h = omega (arith, h)
one_less (Some y) ys n h = omega (arith, h)

few_some : {X Y : Type 0} (f : X → Option Y) (xs : List X) → length (filter_map f xs) ≤ length xs
few_some f [] = omega arith
few_some f (x ∷ xs) = one_less (f x) (filter_map f xs) (length xs) (few_some f xs)

-- a list is not longer than its size
list_within : {X : Type 0} (size : X → ℕ) (xs : List X) → length xs ≤ list_size size xs
list_within size xs = omega arith

cells_within : (library : Library) → length (cells_in library) ≤ library_size library
cells_within library = let a : length (cells_in library) ≤ length library.items = few_some cell_in library.items in let b : length library.items ≤ list_size library_item_size library.items = list_within library_item_size library.items in omega (arith, a, b)

pub few_libraries : (items : List FileItem) → length (libraries_in items) ≤ list_size file_item_size items
few_libraries items = let a : length (libraries_in items) ≤ length items = few_some library_in items in let b : length items ≤ list_size file_item_size items = list_within file_item_size items in omega (arith, a, b)

one_more : (item : FileItem) (items : List FileItem) → list_size file_item_size (item ∷ items) ≡ file_item_size item + suc (list_size file_item_size items)
one_more item items = let e : sum_by file_item_size (item ∷ items) ≡ file_item_size item + sum_by file_item_size items = sum_by-cons file_item_size item items in omega (arith, e)

pub few_cells : (items : List FileItem) → length (flat_map cells_in (libraries_in items)) ≤ list_size file_item_size items
few_cells [] = omega arith
few_cells (file_items.Library library ∷ items) =
    let a : length (cells_in library ++ flat_map cells_in (libraries_in items)) ≡ length (cells_in library) + length (flat_map cells_in (libraries_in items)) = length-append (cells_in library) (flat_map cells_in (libraries_in items)) in
    let b : length (cells_in library) ≤ library_size library = cells_within library in
    let c : length (flat_map cells_in (libraries_in items)) ≤ list_size file_item_size items = few_cells items in
    let d : list_size file_item_size (file_items.Library library ∷ items) ≡ library_size library + suc (list_size file_item_size items) = one_more (file_items.Library library) items in
    omega (arith, a, b, c, d)
few_cells (file_items.Design design ∷ items) = let c : length (flat_map cells_in (libraries_in items)) ≤ list_size file_item_size items = few_cells items in omega (arith, c, one_more (file_items.Design design) items)
few_cells (file_items.Status status ∷ items) = let c : length (flat_map cells_in (libraries_in items)) ≤ list_size file_item_size items = few_cells items in omega (arith, c, one_more (file_items.Status status) items)
few_cells (file_items.Note note ∷ items) = let c : length (flat_map cells_in (libraries_in items)) ≤ list_size file_item_size items = few_cells items in omega (arith, c, one_more (file_items.Note note) items)
