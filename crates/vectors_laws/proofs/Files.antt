-- What references to the cells of a generated file mean.
use Rattle.std.proofs.Common.{arith, append-nil, ◌≡◌, ℕ, suc, ◌+◌, ◌-◌, ◌<◌, ◌≤◌, ◌^◌, Bool, true, false, List, [], ◌∷◌, Some, filter, map, refl, sym, ap, ◌∙◌, subst}
use Rattle.std.specs.Prelude.{codes, slice_get, option_map, ◌==◌}
use Rattle.std.specs.List.{enumerate_from, range_with_len}
use Rattle.std.specs.Option.{option_and_then}
use Rattle.std.proofs.lemmas.Option.{slice_get-map}
use Rattle.edif_values.specs.declared.cell.Cell.{Cell}
use Rattle.edif_values.specs.declared.file.EdifFile.{EdifFile}
use Rattle.edif_lookup.specs.Candidates.{candidates, the_only}
use Rattle.edif_meanings.specs.Apart.{AreApart}
use Rattle.edif_meanings.proofs.Meant.{candidates_of}
use Rattle.edif_design.specs.Parts.{cells_in, instances, numbered}
use Rattle.edif_design.specs.References.{CellPlace, LinkedCell, all_cells, cell_candidates, cell_meant, cells_of_library, file_cells, linked_cell, number_meant, numbers_meant, place_in, top, with_number}
use Rattle.edif_written.proofs.Cells.{map_numbered, numbered_at}
use Rattle.vectors.specs.Cells.{cell, cell_ident, cell_with, contents_of, instance}
use Rattle.vectors.specs.Files.{cells_of, generated, library}
use Rattle.edif_values.specs.declared.view.ViewItem.TheVariants as view_items
use Rattle.vectors_laws.proofs.Idents.{idents_apart}
use Rattle.vectors_laws.proofs.Lists.{map_map, range_at, these_cells}

abbrev pub ident : Cell → List ℕ
ident cell = cell.name.ident

-- a cell above that of a number
abbrev pub above : Bool → ℕ → Cell
above swapped below = cell_with (cell_ident (suc below)) (view_items.Contents (contents_of swapped below) ∷ [])

library_kept : (n : ℕ) (cells : List Cell) → filter (λ (place : ℕ × CellPlace). place.1.library == 0) (enumerate_from n (map (place_in 0) cells)) ≡ enumerate_from n (map (place_in 0) cells)
library_kept n [] = refl
library_kept n (cell ∷ cells) = ap (λ places. (n, place_in 0 cell) ∷ places) (library_kept (n + 1) cells)

pub two_instances : (swapped : Bool) (below : ℕ) → instances (above swapped below) ≡ instance (codes "a") below ∷ (instance (codes "b") below ∷ [])
two_instances true below = refl
two_instances false below = refl

module _ (seed count : ℕ) (small : count ≤ 2 ^ 64) where
  abbrev file : EdifFile
  file = generated seed count

  abbrev cells : List Cell
  cells = cells_of seed count

  pub all_cells_are : all_cells file ≡ map (place_in 0) cells
  unfolding generated
  all_cells_are = append-nil (map (place_in 0) (cells_in (library cells))) ∙ ap (map (place_in 0)) (these_cells cells)

  pub cell_there : (k : ℕ) → k < count → slice_get cells k ≡ Some (cell seed k)
  cell_there k lt = range_at (cell seed) 0 count k lt ∙ ap (λ m. Some (cell seed m)) (let e : 0 + k ≡ k = omega arith in e)

  pub place_there : (k : ℕ) → k < count → slice_get (all_cells file) k ≡ Some (place_in 0 (cell seed k))
  place_there k lt = ap (λ l. slice_get l k) all_cells_are ∙ (slice_get-map (place_in 0) cells k ∙ ap (option_map (place_in 0)) (cell_there k lt))

  library_cells : cells_of_library file 0 ≡ numbered (map (place_in 0) cells)
  library_cells = ap (λ all. filter (λ place. place.1.library == 0) (numbered all)) all_cells_are ∙ library_kept 0 cells

  pub apart : AreApart (map ident cells)
  apart = subst AreApart (sym (map_map ident (cell seed) (range_with_len 0 count))) (idents_apart 0 count (omega (arith, small)))

  places_apart : AreApart (map (λ d. d.1.cell.name.ident) (numbered (map (place_in 0) cells)))
  places_apart = subst AreApart (sym (map_numbered (λ (place : CellPlace). place.cell.name.ident) 0 (map (place_in 0) cells) ∙ map_map (λ (place : CellPlace). place.cell.name.ident) (place_in 0) cells)) apart

  -- the identifier of a cell has that cell as its only candidate
  pub candidates_are : (k : ℕ) → k < count → cell_candidates file 0 (cell_ident k) ≡ (k, place_in 0 (cell seed k)) ∷ []
  candidates_are k lt =
      ap (λ ds. candidates (λ (place : CellPlace). place.cell.name.ident) ds (cell_ident k)) library_cells
      ∙ candidates_of (λ (place : CellPlace). place.cell.name.ident) (numbered (map (place_in 0) cells)) k (k, place_in 0 (cell seed k))
      (numbered_at 0 (map (place_in 0) cells) k (place_in 0 (cell seed k)) (slice_get-map (place_in 0) cells k ∙ ap (option_map (place_in 0)) (cell_there k lt)) ∙ ap (λ m. Some (m, place_in 0 (cell seed k))) (let z : 0 + k ≡ k = omega arith in z))
      places_apart

  -- so an instance of it means it
  pub meant : (name : List ℕ) (k : ℕ) → k < count → cell_meant file 0 (instance name k) ≡ Some (k, place_in 0 (cell seed k))
  meant name k lt = ap the_only (candidates_are k lt)

  cells_alone : file_cells file ≡ cells
  cells_alone = ap (map (λ place. place.cell)) all_cells_are ∙ (map_map (λ (place : CellPlace). place.cell) (place_in 0) cells ∙ same cells)
    where
      same : (cs : List Cell) → map (λ c. c) cs ≡ cs
      same [] = refl
      same (c ∷ cs) = ap (λ ds. c ∷ ds) (same cs)

  numbers_are : (swapped : Bool) (below : ℕ) → below < count → numbers_meant file (place_in 0 (above swapped below)) ≡ Some below ∷ (Some below ∷ [])
  numbers_are swapped below lt =
      ap (map (λ i. number_meant (cell_meant file 0 i))) (two_instances swapped below)
      ∙ (λ j. number_meant (meant (codes "a") below lt j) ∷ (number_meant (meant (codes "b") below lt j) ∷ []))

  -- a cell, linked to the one below
  abbrev pub linked : Bool → ℕ → LinkedCell
  linked swapped below = record { cell = above swapped below; below = Some (below, cell seed below) ∷ (Some (below, cell seed below) ∷ []) }

  pub linked_is : (swapped : Bool) (below : ℕ) → below < count → linked_cell file (place_in 0 (above swapped below)) ≡ linked swapped below
  linked_is swapped below lt =
      (λ j. record { cell = above swapped below; below = map (option_and_then (with_number (cells_alone j))) (numbers_are swapped below lt j) })
      ∙ (λ j. record { cell = above swapped below; below = option_map (λ (c : Cell). (below, c)) (cell_there below lt j) ∷ (option_map (λ (c : Cell). (below, c)) (cell_there below lt j) ∷ []) })

  -- the top is the last cell
  pub top_is : (last : ℕ) → last < count → count - 1 ≡ last → top file ≡ Some (last, place_in 0 (cell seed last))
  unfolding generated
  top_is last lt is = ap (λ m. the_only (cell_candidates file 0 (cell_ident m))) is ∙ ap the_only (candidates_are last lt)
