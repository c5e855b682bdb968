-- What is found in the tables of a file.
use Rattle.std.proofs.Common.{◌≡◌, ℕ, zero, suc, ◌<◌, ◌≤◌, Bool, List, [], ◌∷◌, map, length, get_or, slice_get, Option, Some, None, refl, sym, ap, ◌∙◌, arith}
use Rattle.std.specs.Prelude.{option_map}
use Rattle.std.proofs.lemmas.Option.{slice_get-get_or, slice_get-map, slice_get_past}
use Rattle.edif_lookup.specs.Tables.{meaning, meant_by}
use Rattle.edif_lookup.specs.declared.definitions.Meaning.TheVariants.{Nothing}
use Rattle.edif_lookup.proofs.Naming.{meaning-named}
use Rattle.edif_values.specs.declared.cell.Cell.{Cell}
use Rattle.edif_values.specs.declared.file.EdifFile.{EdifFile}
use Rattle.edif_values.specs.declared.library.Library.{Library}
use Rattle.edif_design.specs.CellRules.{means_view}
use Rattle.edif_design.specs.Parts.{libraries, numbered}
use Rattle.edif_design.specs.References.{CellPlace, cell_candidates, cells_of_library, file_cells, library_candidates}
use Rattle.edif_design.specs.Tables.{HasTables, library_ident, place_of}
use Rattle.edif_design.specs.Views.{means_one, view_names}
use Rattle.edif_design.specs.declared.tables.PlacedCell.{PlacedCell}
use Rattle.edif_design.proofs.ViewLaws.{means_views}

get_or_any : {A : Type 0} (xs : List A) (i : ℕ) (d x : A) → i < length xs → get_or xs i d ≡ get_or xs i x
get_or_any [] i d x h = absurd (omega arith)
get_or_any (y ∷ xs) zero d x h = refl
get_or_any (y ∷ xs) (suc i) d x h = get_or_any xs i d x (omega arith)

past : {A : Type 0} (xs : List A) (i : ℕ) (d : A) → length xs ≤ i → get_or xs i d ≡ d
past [] i d h = refl
past (x ∷ xs) zero d h = absurd (omega arith)
past (x ∷ xs) (suc i) d h = past xs i d (omega arith)

module _ (file : EdifFile) (places : List PlacedCell) (views_named : List (List (List ℕ))) (libraries_named : List (ℕ × List ℕ)) (cells_named : List (List (ℕ × List ℕ))) (tables : HasTables file places views_named libraries_named cells_named) where
  pub library_found : (spelling : List ℕ) → meaning libraries_named spelling ≡ meant_by (library_candidates file spelling)
  library_found spelling = ap (λ ds. meaning ds spelling) tables.libraries_are ∙ meaning-named {A = Library} library_ident (numbered (libraries file)) spelling

  in_library : (library : ℕ) (spelling : List ℕ) → meaning (get_or cells_named library []) spelling ≡ meant_by (cell_candidates file library spelling)
  in_library library spelling = ap (λ ds. meaning ds spelling) (tables.cells_are library) ∙ meaning-named {A = CellPlace} (λ place. place.cell.name.ident) (cells_of_library file library) spelling

  pub cell_found : (library : ℕ) (spelling : List ℕ) (table : List (ℕ × List ℕ)) → library < length cells_named → table ≡ get_or cells_named library table → meaning table spelling ≡ meant_by (cell_candidates file library spelling)
  cell_found library spelling table within is = ap (λ t. meaning t spelling) (is ∙ get_or_any cells_named library table [] within) ∙ in_library library spelling

  pub no_cell_found : (library : ℕ) (spelling : List ℕ) → length cells_named ≤ library → Nothing ≡ meant_by (cell_candidates file library spelling)
  no_cell_found library spelling h = ap (λ t. meaning t spelling) (sym (past cells_named library [] h)) ∙ in_library library spelling

  cells_are : (number : ℕ) → slice_get (file_cells file) number ≡ option_map (λ place. place.cell) (option_map place_of (slice_get places number))
  cells_are number =
      ap (λ ps. slice_get (map (λ place. place.cell) ps) number) (sym tables.places_are)
      ∙ (slice_get-map (λ place. place.cell) (map place_of places) number ∙ ap (option_map (λ place. place.cell)) (slice_get-map place_of places number))

  pub place_found : (number : ℕ) (place : PlacedCell) → number < length places → place ≡ get_or places number place → Some place.cell.now ≡ slice_get (file_cells file) number
  place_found number place within is =
      sym (cells_are number ∙ ap (λ o. option_map (λ p. p.cell) (option_map place_of o)) (slice_get-get_or places number place within ∙ ap Some (sym is)))

  pub no_place_found : (number : ℕ) → length places ≤ number → None ≡ slice_get (file_cells file) number
  no_place_found number h = sym (cells_are number ∙ ap (λ o. option_map (λ p. p.cell) (option_map place_of o)) (slice_get_past places number h))

  views_at : (number : ℕ) → slice_get views_named number ≡ option_map view_names (slice_get (file_cells file) number)
  views_at number = ap (λ vs. slice_get vs number) tables.views_are ∙ slice_get-map view_names (file_cells file) number

  by_names : (spelling : List ℕ) (names : List (List ℕ)) (cell : Option Cell) → Some names ≡ option_map view_names cell → Some (means_one names spelling) ≡ option_map (λ c. means_view c spelling) cell
  by_names spelling names None is = absurd (let e : Some names ≡ None = is in cc)
  by_names spelling names (Some cell) is = let e : Some names ≡ Some (view_names cell) = is in let same : names ≡ view_names cell = cc in ap Some (ap (λ ns. means_one ns spelling) same ∙ means_views cell spelling)

  pub views_found : (number : ℕ) (names : List (List ℕ)) → number < length views_named → names ≡ get_or views_named number names → (spelling : List ℕ) (means : Bool) → means ≡ means_one names spelling
      → Some means ≡ option_map (λ cell. means_view cell spelling) (slice_get (file_cells file) number)
  views_found number names within is spelling means is_means =
      ap Some is_means ∙ by_names spelling names (slice_get (file_cells file) number) (sym (slice_get-get_or views_named number names within ∙ ap Some (sym is)) ∙ views_at number)

  no_names : (spelling : List ℕ) (cell : Option Cell) → None ≡ option_map view_names cell → None ≡ option_map (λ c. means_view c spelling) cell
  no_names spelling None is = refl
  no_names spelling (Some cell) is = absurd (let e : None ≡ Some (view_names cell) = is in cc)

  pub no_views_found : (number : ℕ) → length views_named ≤ number → (spelling : List ℕ) → None ≡ option_map (λ cell. means_view cell spelling) (slice_get (file_cells file) number)
  no_views_found number h spelling = no_names spelling (slice_get (file_cells file) number) (sym (slice_get_past views_named number h) ∙ views_at number)
