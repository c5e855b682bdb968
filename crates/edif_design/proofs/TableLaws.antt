-- The tables of a file hold its cells and its libraries.
use Rattle.std.proofs.Common.{◌≡◌, ℕ, zero, suc, ◌+◌, ◌<◌, Bool, true, false, cond, List, [], ◌∷◌, ◌++◌, map, length, take, get_or, filter, refl, sym, ap, ◌∙◌, arith}
use Rattle.std.specs.Prelude.{◌==◌}
use Rattle.std.specs.Borrow.{Bor}
use Rattle.std.specs.List.{enumerate_from, flat_map}
use Rattle.std.proofs.lemmas.Bool.Decides.{nat_tests}
use Rattle.std.proofs.lemmas.List.{append-nil, length-map, map-append}
use Rattle.std.proofs.lemmas.List.Elements.{filter-append}
use Rattle.std.proofs.lemmas.Grind.{flat_map-append}
use Rattle.edif_lookup.specs.Tables.{named}
use Rattle.edif_lookup.proofs.ListLaws.{enumerate_from-append, map_more}
use Rattle.edif_values.specs.declared.cell.Cell.{Cell}
use Rattle.edif_values.specs.declared.library.Library.{Library}
use Rattle.edif_design.specs.Parts.{cells_in}
use Rattle.edif_design.specs.References.{CellPlace, place_in}
use Rattle.edif_design.specs.Tables.{cell_ident, library_ident, place_of, places_from, seen, tables_from}
use Rattle.edif_design.specs.Views.{view_names}
use Rattle.edif_design.specs.declared.tables.PlacedCell.{PlacedCell}

abbrev stands_in : ℕ → ℕ × CellPlace → Bool
stands_in library place = place.1.library == library

abbrev place_ident : CellPlace → List ℕ
place_ident place = place.cell.name.ident

module _ (k q : ℕ) where
  own_all : (n : ℕ) (cells : List Cell) → (k == q) ≡ true → filter (stands_in q) (enumerate_from n (map (place_in k) cells)) ≡ enumerate_from n (map (place_in k) cells)
  own_all n [] h = refl
  own_all n (cell ∷ cells) h =
      ap (λ b. cond b ((n, place_in k cell) ∷ filter (stands_in q) (enumerate_from (n + 1) (map (place_in k) cells))) (filter (stands_in q) (enumerate_from (n + 1) (map (place_in k) cells)))) h
      ∙ ap (λ rest. (n, place_in k cell) ∷ rest) (own_all (n + 1) cells h)

  own_none : (n : ℕ) (cells : List Cell) → (k == q) ≡ false → filter (stands_in q) (enumerate_from n (map (place_in k) cells)) ≡ []
  own_none n [] h = refl
  own_none n (cell ∷ cells) h =
      ap (λ b. cond b ((n, place_in k cell) ∷ filter (stands_in q) (enumerate_from (n + 1) (map (place_in k) cells))) (filter (stands_in q) (enumerate_from (n + 1) (map (place_in k) cells)))) h
      ∙ own_none (n + 1) cells h

-- the cells of the first library, and those of the others
split_places : (p : ℕ × CellPlace → Bool) (k n : ℕ) (library : Library) (rest : List Library)
    → filter p (enumerate_from n (places_from k (library ∷ rest))) ≡ filter p (enumerate_from n (map (place_in k) (cells_in library))) ++ filter p (enumerate_from (n + length (cells_in library)) (places_from (k + 1) rest))
split_places p k n library rest =
    ap (filter p) (enumerate_from-append n (map (place_in k) (cells_in library)) (places_from (k + 1) rest))
    ∙ (filter-append p (enumerate_from n (map (place_in k) (cells_in library))) (enumerate_from (n + length (map (place_in k) (cells_in library))) (places_from (k + 1) rest))
    ∙ ap (λ m. filter p (enumerate_from n (map (place_in k) (cells_in library))) ++ filter p (enumerate_from (n + m) (places_from (k + 1) rest))) (length-map (cells_in library) (place_in k)))

differs : (k q : ℕ) → q < k → (k == q) ≡ false
differs k q h = grind (arith, nat_tests)

differs_above : (k m : ℕ) → (k == k + suc m) ≡ false
differs_above k m = grind (arith, nat_tests)

same_sum : (k : ℕ) → (k == k + 0) ≡ true
same_sum k = grind (arith, nat_tests)

later_none : (libraries : List Library) (k q n : ℕ) → q < k → filter (stands_in q) (enumerate_from n (places_from k libraries)) ≡ []
later_none [] k q n h = refl
later_none (library ∷ rest) k q n h =
    split_places (stands_in q) k n library rest
    ∙ (ap (λ xs. xs ++ filter (stands_in q) (enumerate_from (n + length (cells_in library)) (places_from (k + 1) rest))) (own_none k q n (cells_in library) (differs k q h))
    ∙ later_none rest (k + 1) q (n + length (cells_in library)) (omega arith))

named-places : (k n : ℕ) (cells : List Cell) → named place_ident (enumerate_from n (map (place_in k) cells)) ≡ named cell_ident (enumerate_from n cells)
named-places k n [] = refl
named-places k n (cell ∷ cells) = ap (λ rest. (n, cell.name.ident) ∷ rest) (named-places k (n + 1) cells)

tables_at : (libraries : List Library) (k n l : ℕ) → get_or (tables_from n libraries) l [] ≡ named place_ident (filter (stands_in (k + l)) (enumerate_from n (places_from k libraries)))
tables_at [] k n l = refl
tables_at (library ∷ rest) k n zero =
    sym (named-places k n (cells_in library))
    ∙ (ap (named place_ident) (sym (own_all k (k + 0) n (cells_in library) (same_sum k)))
    ∙ (ap (named place_ident) (sym (append-nil (filter (stands_in (k + 0)) (enumerate_from n (map (place_in k) (cells_in library))))))
    ∙ (ap (λ xs. named place_ident (filter (stands_in (k + 0)) (enumerate_from n (map (place_in k) (cells_in library))) ++ xs)) (sym (later_none rest (k + 1) (k + 0) (n + length (cells_in library)) (omega arith)))
    ∙ ap (named place_ident) (sym (split_places (stands_in (k + 0)) k n library rest)))))
tables_at (library ∷ rest) k n (suc l) =
    tables_at rest (k + 1) (n + length (cells_in library)) l
    ∙ (ap (λ m. named place_ident (filter (stands_in m) (enumerate_from (n + length (cells_in library)) (places_from (k + 1) rest)))) (let e : k + 1 + l ≡ k + suc l = omega arith in e)
    ∙ (ap (λ xs. named place_ident (xs ++ filter (stands_in (k + suc l)) (enumerate_from (n + length (cells_in library)) (places_from (k + 1) rest)))) (sym (own_none k (k + suc l) n (cells_in library) (differs_above k l)))
    ∙ ap (named place_ident) (sym (split_places (stands_in (k + suc l)) k n library rest))))

-- the table of a library holds the names of its cells, numbered through the file
pub tables_hold : (libraries : List Library) (l : ℕ) → get_or (tables_from 0 libraries) l [] ≡ named place_ident (filter (stands_in l) (enumerate_from 0 (places_from 0 libraries)))
tables_hold libraries l = tables_at libraries 0 0 l ∙ ap (λ m. named place_ident (filter (stands_in m) (enumerate_from 0 (places_from 0 libraries)))) (let e : 0 + l ≡ l = omega arith in e)

taken : {X : Type 0} (xs : List X) (i : ℕ) → i < length xs → length (take i xs) ≡ i
taken [] i h = absurd (omega arith)
taken (x ∷ xs) zero h = refl
taken (x ∷ xs) (suc i) h = ap suc (taken xs i (omega arith))

abbrev cells_at : ℕ × Library → List CellPlace
cells_at library = map (place_in library.0) (cells_in library.1)

numbers_after : (before : List Library) (library : Library) → enumerate_from 0 (before ++ library ∷ []) ≡ enumerate_from 0 before ++ (length before, library) ∷ []
numbers_after before library = enumerate_from-append 0 before (library ∷ []) ∙ ap (λ n. enumerate_from 0 before ++ (n, library) ∷ []) (let e : 0 + length before ≡ length before = omega arith in e)

-- one more library after some
places_push : (before : List Library) (library : Library) → places_from 0 (before ++ library ∷ []) ≡ places_from 0 before ++ map (place_in (length before)) (cells_in library)
places_push before library =
    let e : flat_map cells_at (enumerate_from 0 before ++ (length before, library) ∷ []) ≡ flat_map cells_at (enumerate_from 0 before) ++ flat_map cells_at ((length before, library) ∷ []) = flat_map-append cells_at (enumerate_from 0 before) ((length before, library) ∷ []) in
    let f : flat_map cells_at ((length before, library) ∷ []) ≡ map (place_in (length before)) (cells_in library) = append-nil (map (place_in (length before)) (cells_in library)) in
    ap (flat_map cells_at) (numbers_after before library) ∙ (e ∙ ap (λ xs. places_from 0 before ++ xs) f)

abbrev library_name_at : ℕ × Library → ℕ × List ℕ
library_name_at definition = (definition.0, library_ident definition.1)

named_push : (before : List Library) (library : Library) → named library_ident (enumerate_from 0 (before ++ library ∷ [])) ≡ named library_ident (enumerate_from 0 before) ++ (length before, library.name.ident) ∷ []
named_push before library =
    let e : map library_name_at (enumerate_from 0 before ++ (length before, library) ∷ []) ≡ map library_name_at (enumerate_from 0 before) ++ (length before, library.name.ident) ∷ [] = map-append library_name_at (enumerate_from 0 before) ((length before, library) ∷ []) in
    ap (named library_ident) (numbers_after before library) ∙ e

module _ (libraries : List (Bor Library)) (i : ℕ) (d : Bor Library) (h : i < length libraries) where
  before_is : length (seen (take i libraries)) ≡ i
  before_is = length-map (take i libraries) (λ borrowed. borrowed.now) ∙ taken libraries i h

  pub places_more : places_from 0 (seen (take (i + 1) libraries)) ≡ places_from 0 (seen (take i libraries)) ++ map (place_in i) (cells_in (get_or libraries i d).now)
  places_more =
      ap (places_from 0) (map_more (λ borrowed. borrowed.now) libraries i d h)
      ∙ (places_push (seen (take i libraries)) (get_or libraries i d).now
      ∙ ap (λ n. places_from 0 (seen (take i libraries)) ++ map (place_in n) (cells_in (get_or libraries i d).now)) before_is)

  pub named_more : named library_ident (enumerate_from 0 (seen (take (i + 1) libraries))) ≡ named library_ident (enumerate_from 0 (seen (take i libraries))) ++ (i, (get_or libraries i d).now.name.ident) ∷ []
  named_more =
      ap (λ ls. named library_ident (enumerate_from 0 ls)) (map_more (λ borrowed. borrowed.now) libraries i d h)
      ∙ (named_push (seen (take i libraries)) (get_or libraries i d).now
      ∙ ap (λ n. named library_ident (enumerate_from 0 (seen (take i libraries))) ++ (n, (get_or libraries i d).now.name.ident) ∷ []) before_is)

-- the views of the cells at these places
pub views_placed : (places : List PlacedCell) → map (λ place. view_names place.cell.now) places ≡ map view_names (map (λ place. place.cell) (map place_of places))
views_placed [] = refl
views_placed (place ∷ places) = ap (λ rest. view_names place.cell.now ∷ rest) (views_placed places)
