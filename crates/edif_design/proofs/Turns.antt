-- Turns of loops that gather the parts of a file.
use Rattle.std.proofs.Common.{◌≡◌, ℕ, ◌+◌, ◌<◌, ◌≤◌, List, [], ◌∷◌, ◌++◌, map, length, take, drop, get_or, Option, Some, None, zero, suc, refl, sym, ap, ◌∙◌, subst, arith, append_assoc}
use Rattle.std.specs.Prelude.{option_to_list}
use Rattle.std.specs.Borrow.{Bor}
use Rattle.std.specs.List.{cons_option, enumerate_from, filter_map, flat_map}
use Rattle.std.proofs.lemmas.List.{map-append, length-append, length-map, get_or-map}
use Rattle.edif_lookup.specs.Tables.{named, written}
use Rattle.edif_lookup.proofs.ListLaws.{drop_more, enumerate_from-append, filter_map_more}
use Rattle.edif_values.specs.declared.cell.Cell.{Cell}
use Rattle.edif_values.specs.declared.library.Library.{Library}
use Rattle.edif_values.specs.declared.library.LibraryItem.{LibraryItem}
use Rattle.edif_design.specs.Parts.{cell_in, cells_in}
use Rattle.edif_design.specs.References.{CellPlace, place_in}
use Rattle.edif_design.specs.Tables.{cell_ident, seen, tables_from}

-- one more of the things that some items are
pub gathered : {X Y : Type 0} (f : X → Option Y) (items : List X) (i : ℕ) (x : X) → i < length items → x ≡ get_or items i x → (old new : List Y) → old ≡ filter_map f (take i items) → new ≡ old ++ option_to_list (f x)
    → new ≡ filter_map f (take (i + 1) items)
gathered f items i x within is old new is_old is_new =
    is_new ∙ (ap (λ ys. ys ++ option_to_list (f x)) is_old ∙ (ap (λ y. filter_map f (take i items) ++ option_to_list (f y)) is ∙ sym (filter_map_more f items i x within)))

-- one more of the places of the cells of a library
pub placed : (library : ℕ) (items : List LibraryItem) (i : ℕ) (x : LibraryItem) → i < length items → x ≡ get_or items i x → (start old new : List CellPlace) → old ≡ start ++ map (place_in library) (filter_map cell_in (take i items))
    → new ≡ old ++ map (place_in library) (option_to_list (cell_in x)) → new ≡ start ++ map (place_in library) (filter_map cell_in (take (i + 1) items))
placed library items i x within is start old new is_old is_new =
    is_new ∙ (ap (λ ys. ys ++ map (place_in library) (option_to_list (cell_in x))) is_old
    ∙ (append_assoc start (map (place_in library) (filter_map cell_in (take i items))) (map (place_in library) (option_to_list (cell_in x)))
    ∙ (ap (λ ys. start ++ ys) (sym (map-append (place_in library) (filter_map cell_in (take i items)) (option_to_list (cell_in x))))
    ∙ ap (λ ys. start ++ map (place_in library) ys) (gathered cell_in items i x within is (filter_map cell_in (take i items)) (filter_map cell_in (take i items) ++ option_to_list (cell_in x)) refl refl))))

-- how many names there are
pub written_length : (entries : List (ℕ × Bor (List ℕ))) (first : ℕ) (cells : List Cell) → written entries ≡ named cell_ident (enumerate_from first cells) → length entries ≡ length cells
written_length entries first cells e =
    sym (length-map entries (λ entry. (entry.0, entry.1.now))) ∙ (ap length e ∙ (length-map (enumerate_from first cells) (λ definition. (definition.0, cell_ident definition.1)) ∙ counted first cells))
  where
    counted : (first : ℕ) (cells : List Cell) → length (enumerate_from first cells) ≡ length cells
    counted first [] = refl
    counted first (cell ∷ cells) = ap suc (counted (first + 1) cells)

-- one more of the names of the cells of a library
pub entered : (first : ℕ) (items : List LibraryItem) (i : ℕ) (x : LibraryItem) → i < length items → x ≡ get_or items i x → (old new : List (ℕ × Bor (List ℕ))) → written old ≡ named cell_ident (enumerate_from first (filter_map cell_in (take i items)))
    → written new ≡ written old ++ named cell_ident (enumerate_from (first + length old) (option_to_list (cell_in x))) → written new ≡ named cell_ident (enumerate_from first (filter_map cell_in (take (i + 1) items)))
entered first items i x within is old new is_old is_new =
    is_new ∙ (ap (λ ys. ys ++ named cell_ident (enumerate_from (first + length old) (option_to_list (cell_in x)))) is_old
    ∙ (ap (λ n. named cell_ident (enumerate_from first before) ++ named cell_ident (enumerate_from (first + n) (option_to_list (cell_in x)))) (written_length old first before is_old)
    ∙ (sym (map-append (λ definition. (definition.0, cell_ident definition.1)) (enumerate_from first before) (enumerate_from (first + length before) (option_to_list (cell_in x))))
    ∙ (ap (named cell_ident) (sym (enumerate_from-append first before (option_to_list (cell_in x))))
    ∙ ap (λ cells. named cell_ident (enumerate_from first cells)) (gathered cell_in items i x within is before (before ++ option_to_list (cell_in x)) refl refl)))))
  where
    before : List Cell
    before = filter_map cell_in (take i items)

-- some of the cells of a library are not more than all
pub few_taken : (items : List LibraryItem) (i : ℕ) → length (filter_map cell_in (take i items)) ≤ length (filter_map cell_in items)
few_taken [] zero = omega arith
few_taken [] (suc i) = omega arith
few_taken (x ∷ items) zero = omega arith
few_taken (x ∷ items) (suc i) = by (cell_in x) (few_taken items i)
  where
    by : (o : Option Cell) → length (filter_map cell_in (take i items)) ≤ length (filter_map cell_in items) → length (cons_option o (filter_map cell_in (take i items))) ≤ length (cons_option o (filter_map cell_in items))
    by None h = h
    by (Some cell) h = omega (arith, h)

-- what is read of a list that is known to be another one
pub in_items : {X : Type 0} (xs items : List X) → xs ≡ items → (i : ℕ) (x : X) → i < length xs → x ≡ get_or xs i x → (i < length items) × (x ≡ get_or items i x)
in_items xs items e i x within is = subst (λ ys. (i < length ys) × (x ≡ get_or ys i x)) e (within, is)

-- the libraries from a place on
module _ (libraries : List (Bor Library)) (i : ℕ) (x : Bor Library) (within : i < length libraries) (is : x ≡ get_or libraries i x) where
  next_library : drop i (seen libraries) ≡ x.now ∷ drop (i + 1) (seen libraries)
  next_library =
      let inside : i < length (seen libraries) = subst (λ n. i < n) (sym (length-map libraries (λ borrowed. borrowed.now))) within in
      drop_more (seen libraries) i x.now inside
      ∙ ap (λ l. l ∷ drop (i + 1) (seen libraries)) (get_or-map (λ borrowed. borrowed.now) libraries i x x.now within ∙ sym (ap (λ borrowed. borrowed.now) is))

  -- the cells of the next library are counted
  pub counted_next : length (flat_map cells_in (drop i (seen libraries))) ≡ length (cells_in x.now) + length (flat_map cells_in (drop (i + 1) (seen libraries)))
  counted_next = ap (λ ls. length (flat_map cells_in ls)) next_library ∙ length-append (cells_in x.now) (flat_map cells_in (drop (i + 1) (seen libraries)))

  -- one more table
  pub tabled : (first count : ℕ) (all old new : List (List (ℕ × List ℕ))) (table : List (ℕ × List ℕ)) → old ++ tables_from first (drop i (seen libraries)) ≡ all → new ≡ old ++ table ∷ []
      → table ≡ named cell_ident (enumerate_from first (cells_in x.now)) → count ≡ length (cells_in x.now) → new ++ tables_from (first + count) (drop (i + 1) (seen libraries)) ≡ all
  tabled first count all old new table so_far is_new is_table is_count =
      ap (λ ts. ts ++ tables_from (first + count) rest) is_new
      ∙ (append_assoc old (table ∷ []) (tables_from (first + count) rest)
      ∙ ((λ j. old ++ (is_table j ∷ tables_from (first + is_count j) rest))
      ∙ (ap (λ ls. old ++ tables_from first ls) (sym next_library) ∙ so_far)))
    where
      rest : List Library
      rest = drop (i + 1) (seen libraries)
