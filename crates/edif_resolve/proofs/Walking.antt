-- A walk passes the parts of a file.
use Rattle.std.proofs.Common.{◌≡◌, ℕ, zero, suc, ◌+◌, ◌<◌, Bool, true, false, cond, ◌||◌, List, [], ◌∷◌, ◌++◌, map, length, take, get_or, slice_get, Option, Some, None, refl, sym, ap, ◌∙◌, subst, arith, append_assoc}
use Rattle.std.specs.Prelude.{codes, option_map}
use Rattle.std.specs.Option.{option_copied}
use Rattle.std.proofs.lemmas.Bool.{false≢true}
use Rattle.std.specs.Borrow.{Bor}
use Rattle.std.specs.List.{flat_map}
use Rattle.std.proofs.lemmas.List.{append-nil, length-append, length-map, get_or-map, map-append, take_more}
use Rattle.std.proofs.lemmas.List.Elements.{filter_map-append}
use Rattle.std.proofs.lemmas.List.Folds.{list_any-append}
use Rattle.std.proofs.lemmas.Option.{slice_get-map}
use Rattle.std.proofs.lemmas.Grind.{flat_map-append}
use Rattle.nl_base.specs.Case.{same_bytes}
use Rattle.nl_base.specs.declared.rule.Refusal.{Refusal}
use Rattle.nl_base.specs.declared.rule.Rule.TheVariants.{E4, E5}
use Rattle.edif_lookup.specs.Refusals.{broken, each_after, if_some, in_order, is_in, lower, lowest}
use Rattle.edif_lookup.proofs.NameLaws.{names_turn, or_comm}
use Rattle.edif_lookup.proofs.Orders.{lowest_both, lowest_none, lowest_turn}
use Rattle.edif_values.specs.declared.cell.Cell.{Cell}
use Rattle.edif_values.specs.declared.file.Design.{Design}
use Rattle.edif_values.specs.declared.file.EdifFile.{EdifFile}
use Rattle.edif_values.specs.declared.file.FileItem.{FileItem}
use Rattle.edif_values.specs.declared.file.FileItem.TheVariants as file_items
use Rattle.edif_values.specs.declared.library.Library.{Library}
use Rattle.edif_values.specs.declared.note.Note.{Note}
use Rattle.edif_values.specs.declared.status.Status.{Status}
use Rattle.edif_design.specs.CellRules.{cell_refusals, link_refusals}
use Rattle.edif_design.specs.FileRules.{cells_before, design_count_refusals, design_refusals, file_item_refusals, library_cell_refusals, reached_refusals, refusals, second_library}
use Rattle.edif_design.specs.Parts.{cells_in, designs, libraries_in, library_in}
use Rattle.edif_design.specs.Reach.{is_reached}
use Rattle.edif_design.specs.References.{CellPlace, all_cells, file_cells, number_meant, place_in, top_meant}
use Rattle.edif_design.specs.Tables.{cell_ident, library_ident, seen}
use Rattle.edif_resolve.specs.Walk.{HasPassed, lacks_view}
use Rattle.edif_resolve.specs.declared.file.Walk.{Walk}
use Rattle.edif_resolve.proofs.Numbers.{meant_stands}

pub taken : {A : Type 0} (xs : List A) (i : ℕ) → i < length xs → length (take i xs) ≡ i
taken [] i h = absurd (omega arith)
taken (x ∷ xs) zero h = refl
taken (x ∷ xs) (suc i) h = ap suc (taken xs i (omega arith))

pub nothing : None ≡ lowest []
unfolding lowest
nothing = refl

-- a walk that has passed nothing
pub passed_none : (file : EdifFile) (names : List (List ℕ)) → ((other : List ℕ) → is_in other names ≡ false) → HasPassed file [] (record { best = None; names = names; libraries = 0; cells = 0 })
passed_none file names none = record { best_is = nothing; names_are = none; libraries_are = refl; cells_are = refl }

-- a walk that has passed the items before one, and that one
pub passed_on : (file : EdifFile) (items : List FileItem) (i : ℕ) (x : FileItem) → i < length items → x ≡ get_or items i x → (walk : Walk) → HasPassed file (take i items ++ x ∷ []) walk → HasPassed file (take (i + 1) items) walk
passed_on file items i x within is walk passed = subst (λ before. HasPassed file before walk) (ap (λ y. take i items ++ y ∷ []) is ∙ sym (take_more items i x within)) passed

-- the cell of a number that is not reached breaks nothing
pub unreached : (file : EdifFile) (number : ℕ) (place : CellPlace) (reached : Bool) → reached ≡ is_reached file number → reached ≡ false → None ≡ lowest (reached_refusals file number place)
unreached file number place reached is unmarked = nothing ∙ by (is_reached file number) (sym is ∙ unmarked)
  where
    by : (b : Bool) → b ≡ false → lowest [] ≡ lowest (cond b (cell_refusals file place) [])
    by false e = refl
    by true e = absurd (false≢true (sym e))

pub copied_map : {A : Type 0} (o : Option (Bor A)) → option_copied o ≡ option_map (λ borrowed. borrowed.now) o
copied_map None = refl
copied_map (Some x) = refl

-- the first refusal of the whole file
pub file_refused : (file tabled : EdifFile) → file ≡ tabled → (found : List Design) → found ≡ designs file → (count parts now : Option Refusal) → count ≡ lowest (design_count_refusals found) → parts ≡ lowest (in_order (file_item_refusals tabled) file.items)
    → now ≡ lower count parts → now ≡ lowest (refusals file)
unfolding refusals
file_refused file tabled same found are count parts now is_count is_parts is_now =
    is_now ∙ lowest_both (design_count_refusals (designs file)) (in_order (file_item_refusals file) file.items) count parts (is_count ∙ ap (λ ds. lowest (design_count_refusals ds)) are)
    (is_parts ∙ ap (λ f. lowest (in_order (file_item_refusals f) file.items)) (sym same))

-- a turn of the loop over the cells of a library
module _ (file : EdifFile) (library first : ℕ) (cells : List (Bor Cell)) (i : ℕ) (x : Bor Cell) (within : i < length cells) (is : x ≡ get_or cells i x) where
  inside : i < length (seen cells)
  inside = subst (λ n. i < n) (sym (length-map cells (λ cell. cell.now))) within

  at : x.now ≡ get_or (seen cells) i x.now
  at = ap (λ cell. cell.now) is ∙ sym (get_or-map (λ cell. cell.now) cells i x x.now within)

  pub cells_turn : (names : List (List ℕ)) → ((other : List ℕ) → is_in other names ≡ is_in other (map cell_ident (take i (seen cells)))) → (taken_ident : Bool) → taken_ident ≡ is_in x.now.name.ident names
      → (best next now : Option Refusal) → best ≡ lowest (in_order (library_cell_refusals file library first) (take i (seen cells)))
      → next ≡ lowest (broken taken_ident E5 [] (codes "cell" ∷ (x.now.name.ident ∷ [])) ++ reached_refusals file (first + i) (place_in library x.now))
      → now ≡ lower best next → now ≡ lowest (in_order (library_cell_refusals file library first) (take (i + 1) (seen cells)))
  cells_turn names has_names taken_ident is_taken best next now is_best is_next is_now =
      let a : taken_ident ≡ is_in x.now.name.ident (map cell_ident (take i (seen cells))) = is_taken ∙ has_names x.now.name.ident in
      let n : i ≡ length (take i (seen cells)) = sym (taken (seen cells) i inside) in
      lowest_turn (library_cell_refusals file library first) (seen cells) i x.now inside best next now is_best
      (is_next
      ∙ ((λ j. lowest (broken (a j) E5 [] (codes "cell" ∷ (x.now.name.ident ∷ [])) ++ reached_refusals file (first + n j) (place_in library x.now)))
      ∙ ap (λ cell. lowest (library_cell_refusals file library first (take i (seen cells)) cell)) at)) is_now

  pub cell_names_turn : (old new : List (List ℕ)) → ((other : List ℕ) → is_in other old ≡ is_in other (map cell_ident (take i (seen cells)))) → ((other : List ℕ) → is_in other new ≡ (same_bytes other x.now.name.ident || is_in other old))
      → (other : List ℕ) → is_in other new ≡ is_in other (map cell_ident (take (i + 1) (seen cells)))
  cell_names_turn old new = names_turn cell_ident (seen cells) i x.now inside old new x.now.name.ident (ap cell_ident at)

-- what a design breaks
module _ (file : EdifFile) (design : Design) where
  no_cell : (o : Option (ℕ × CellPlace)) → None ≡ number_meant o → o ≡ None
  no_cell None e = refl
  no_cell (Some place) e = absurd (cc)

  one_cell : (n : ℕ) (o : Option (ℕ × CellPlace)) → Some n ≡ number_meant o → (place : ℕ × CellPlace) × ((o ≡ Some place) × (n ≡ place.0))
  one_cell n None e = absurd (cc)
  one_cell n (Some place) e = (place, (refl, (let f : n ≡ place.0 = cc in f)))

  pub design_refused : (refusal : Refusal) → None ≡ number_meant (top_meant file design) → Some refusal ≡ lowest (link_refusals file 0 [] (Some design.library) design.cell) → Some refusal ≡ lowest (design_refusals file design)
  design_refused refusal number broken_so =
      broken_so
      ∙ (ap lowest (sym (append-nil (link_refusals file 0 [] (Some design.library) design.cell)))
      ∙ ap (λ o. lowest (link_refusals file 0 [] (Some design.library) design.cell ++ if_some o (λ place. broken (lacks_view (Some place.1.cell)) E4 [] (design.cell ∷ [])))) (sym (no_cell (top_meant file design) number)))

  pub design_linked : (n : ℕ) → Some n ≡ number_meant (top_meant file design) → None ≡ lowest (link_refusals file 0 [] (Some design.library) design.cell)
      → (missing : Bool) → missing ≡ lacks_view (slice_get (file_cells file) n) → (found : Option Refusal) → found ≡ lowest (broken missing E4 [] (design.cell ∷ [])) → found ≡ lowest (design_refusals file design)
  design_linked n number unbroken missing is_missing found is_found =
      let one = one_cell n (top_meant file design) number in
      let place : ℕ × CellPlace = one.0 in
      let stands : slice_get (all_cells file) place.0 ≡ Some place.1 = meant_stands file 0 (Some design.library) design.cell place one.1.0 in
      let cell : slice_get (file_cells file) n ≡ Some place.1.cell = ap (slice_get (file_cells file)) one.1.1 ∙ (slice_get-map (λ p. p.cell) (all_cells file) place.0 ∙ ap (option_map (λ p. p.cell)) stands) in
      is_found
      ∙ ((λ j. lowest (broken ((is_missing ∙ ap lacks_view cell) j) E4 [] (design.cell ∷ [])))
      ∙ (ap (λ links. lowest (links ++ broken (lacks_view (Some place.1.cell)) E4 [] (design.cell ∷ []))) (sym (lowest_none (link_refusals file 0 [] (Some design.library) design.cell) (sym unbroken)))
      ∙ ap (λ o. lowest (link_refusals file 0 [] (Some design.library) design.cell ++ if_some o (λ p. broken (lacks_view (Some p.1.cell)) E4 [] (design.cell ∷ [])))) (sym one.1.0)))

each_after_push : {A B : Type 0} (f : List A → A → List B) (before items : List A) (item : A) → each_after f before (items ++ item ∷ []) ≡ each_after f before items ++ f (before ++ items) item
each_after_push f before [] item = append-nil (f before item) ∙ ap (λ b. f b item) (sym (append-nil before))
each_after_push f before (first ∷ rest) item =
    ap (λ xs. f before first ++ xs) (each_after_push f (before ++ first ∷ []) rest item ∙ ap (λ b. each_after f (before ++ first ∷ []) rest ++ f b item) (append_assoc before (first ∷ []) rest))
    ∙ sym (append_assoc (f before first) (each_after f (before ++ first ∷ []) rest) (f (before ++ first ∷ rest) item))

-- one more part of the file
module _ (file : EdifFile) (before : List FileItem) (walk : Walk) (passed : HasPassed file before walk) where
  best_push : (item : FileItem) (next now : Option Refusal) → next ≡ lowest (file_item_refusals file before item) → now ≡ lower walk.best next → now ≡ lowest (in_order (file_item_refusals file) (before ++ item ∷ []))
  best_push item next now is_next is_now =
      is_now ∙ (lowest_both (in_order (file_item_refusals file) before) (file_item_refusals file before item) walk.best next passed.best_is is_next ∙ ap lowest (sym (each_after_push (file_item_refusals file) [] before item)))

  libraries_push : (item : FileItem) → libraries_in (before ++ item ∷ []) ≡ libraries_in before ++ libraries_in (item ∷ [])
  libraries_push item = filter_map-append library_in before (item ∷ [])

  kept : (item : FileItem) → libraries_in (item ∷ []) ≡ [] → libraries_in (before ++ item ∷ []) ≡ libraries_in before
  kept item e = libraries_push item ∙ (ap (λ ls. libraries_in before ++ ls) e ∙ append-nil (libraries_in before))

  same_best : (best : Option Refusal) → best ≡ lower best None
  unfolding lower
  same_best None = refl
  same_best (Some refusal) = refl

  pub passed_status : (status : Status) → HasPassed file (before ++ file_items.Status status ∷ []) walk
  passed_status status = record {
    best_is = best_push (file_items.Status status) None walk.best nothing (same_best walk.best);
    names_are = λ other. passed.names_are other ∙ ap (λ ls. is_in other (map library_ident ls)) (sym (kept (file_items.Status status) refl));
    libraries_are = passed.libraries_are ∙ ap length (sym (kept (file_items.Status status) refl));
    cells_are = passed.cells_are ∙ ap (λ ls. length (flat_map cells_in ls)) (sym (kept (file_items.Status status) refl));
  }

  pub passed_note : (note : Note) → HasPassed file (before ++ file_items.Note note ∷ []) walk
  passed_note note = record {
    best_is = best_push (file_items.Note note) None walk.best nothing (same_best walk.best);
    names_are = λ other. passed.names_are other ∙ ap (λ ls. is_in other (map library_ident ls)) (sym (kept (file_items.Note note) refl));
    libraries_are = passed.libraries_are ∙ ap length (sym (kept (file_items.Note note) refl));
    cells_are = passed.cells_are ∙ ap (λ ls. length (flat_map cells_in ls)) (sym (kept (file_items.Note note) refl));
  }

  pub passed_design : (design : Design) (next best : Option Refusal) → next ≡ lowest (design_refusals file design) → best ≡ lower walk.best next
      → HasPassed file (before ++ file_items.Design design ∷ []) (record { best = best; names = walk.names; libraries = walk.libraries; cells = walk.cells })
  passed_design design next best is_next is_best = record {
    best_is = best_push (file_items.Design design) next best is_next is_best;
    names_are = λ other. passed.names_are other ∙ ap (λ ls. is_in other (map library_ident ls)) (sym (kept (file_items.Design design) refl));
    libraries_are = passed.libraries_are ∙ ap length (sym (kept (file_items.Design design) refl));
    cells_are = passed.cells_are ∙ ap (λ ls. length (flat_map cells_in ls)) (sym (kept (file_items.Design design) refl));
  }

  pub passed_library : (library : Library) (taken_ident : Bool) → taken_ident ≡ is_in library.name.ident walk.names → (names : List (List ℕ)) → ((other : List ℕ) → is_in other names ≡ (same_bytes other library.name.ident || is_in other walk.names))
      → (own : List Cell) → own ≡ cells_in library → (second parts next best : Option Refusal) → second ≡ lowest (broken taken_ident E5 [] (codes "library" ∷ (library.name.ident ∷ [])))
      → parts ≡ lowest (in_order (library_cell_refusals file walk.libraries walk.cells) own) → next ≡ lower second parts → best ≡ lower walk.best next → (libraries cells : ℕ) → libraries ≡ walk.libraries + 1 → cells ≡ walk.cells + length own
      → HasPassed file (before ++ file_items.Library library ∷ []) (record { best = best; names = names; libraries = libraries; cells = cells })
  passed_library library taken_ident is_taken names has_names own is_own second parts next best is_second is_parts is_next is_best libraries cells is_libraries is_cells =
      let a : taken_ident ≡ is_in library.name.ident (map library_ident (libraries_in before)) = is_taken ∙ passed.names_are library.name.ident in
      let e : libraries_in (before ++ file_items.Library library ∷ []) ≡ libraries_in before ++ library ∷ [] = libraries_push (file_items.Library library) in
      let m : length (libraries_in before ++ library ∷ []) ≡ length (libraries_in before) + 1 = length-append (libraries_in before) (library ∷ []) in
      let f : length (flat_map cells_in (libraries_in before ++ library ∷ [])) ≡ length (flat_map cells_in (libraries_in before)) + length (cells_in library) =
      ap length (flat_map-append cells_in (libraries_in before) (library ∷ []) ∙ ap (λ cs. flat_map cells_in (libraries_in before) ++ cs) (append-nil (cells_in library))) ∙ length-append (flat_map cells_in (libraries_in before)) (cells_in library) in
      record {
        best_is = best_push (file_items.Library library) next best
            (is_next
            ∙ lowest_both (second_library (libraries_in before) library) (in_order (library_cell_refusals file (length (libraries_in before)) (cells_before before)) (cells_in library)) second parts
            (is_second ∙ (λ j. lowest (broken (a j) E5 [] (codes "library" ∷ (library.name.ident ∷ [])))))
            (is_parts ∙ (λ j. lowest (in_order (library_cell_refusals file (passed.libraries_are j) (passed.cells_are j)) (is_own j))))) is_best;
        names_are = λ other.
            has_names other
            ∙ (ap (λ b. same_bytes other library.name.ident || b) (passed.names_are other)
            ∙ (sym (or_comm (same_bytes other library.name.ident) (is_in other (map library_ident (libraries_in before))))
            ∙ (sym (list_any-append (same_bytes other) (map library_ident (libraries_in before)) (library.name.ident ∷ []))
            ∙ ap (is_in other) (sym (ap (map library_ident) e ∙ map-append library_ident (libraries_in before) (library ∷ []))))));
        libraries_are = is_libraries ∙ (ap (λ n. n + 1) passed.libraries_are ∙ (sym m ∙ ap length (sym e)));
        cells_are = is_cells ∙ ((λ j. passed.cells_are j + length (is_own j)) ∙ (sym f ∙ ap (λ ls. length (flat_map cells_in ls)) (sym e)));
      }
