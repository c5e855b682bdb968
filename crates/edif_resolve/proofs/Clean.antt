-- A file that breaks no rule up to E12: what its parts then mean.
use Rattle.std.proofs.Common.{◌≡◌, ℕ, zero, suc, ◌+◌, ◌<◌, ◌⊎◌, inl, inr, Bool, true, false, cond, List, [], ◌∷◌, ◌++◌, map, length, take, get_or, slice_get, Option, Some, None, refl, sym, ap, ◌∙◌, subst, arith}
use Rattle.std.specs.Prelude.{option_map, is_none}
use Rattle.std.specs.Option.{option_and_then}
use Rattle.std.specs.List.{AllByRecursion, filter_map, flat_map}
use Rattle.std.proofs.lemmas.Bool.{false≢true}
use Rattle.std.proofs.lemmas.List.{append-nil, length-append, length-map}
use Rattle.std.proofs.lemmas.List.Elements.{filter_map-append}
use Rattle.std.proofs.lemmas.Grind.{flat_map-append}
use Rattle.std.proofs.lemmas.Option.{get_or_from_slice_get, slice_get_within}
use Rattle.nl_base.specs.declared.rule.Rule.TheVariants.{E2, E3, E4}
use Rattle.edif_lookup.specs.Candidates.{the_only}
use Rattle.edif_lookup.specs.Refusals.{broken, broken_reference, each_after, if_some, in_order}
use Rattle.edif_lookup.proofs.Orders.{in_order_none, none_left, none_right}
use Rattle.edif_values.specs.Names.{original}
use Rattle.edif_values.specs.declared.cell.Cell.{Cell}
use Rattle.edif_values.specs.declared.file.Design.{Design}
use Rattle.edif_values.specs.declared.file.EdifFile.{EdifFile}
use Rattle.edif_values.specs.declared.file.FileItem.{FileItem}
use Rattle.edif_values.specs.declared.file.FileItem.TheVariants as file_items
use Rattle.edif_values.specs.declared.library.Library.{Library}
use Rattle.edif_values.specs.declared.view.ContentsItem.{ContentsItem}
use Rattle.edif_values.specs.declared.view.ContentsItem.TheVariants as contents_items
use Rattle.edif_design.specs.CellRules.{cell_refusals, contents_refusals, instance_refusals, link_refusals, port_refusals}
use Rattle.edif_design.specs.FileRules.{cells_before, design_count_refusals, design_refusals, file_item_refusals, library_cell_refusals, reached_refusals, refusals, second_cell, second_library}
use Rattle.edif_design.specs.Parts.{cell_contents, cells_in, design_in, designs, instance_in, instances, libraries_in, library_in, ports, views}
use Rattle.edif_design.specs.Reach.{is_reached}
use Rattle.edif_design.specs.References.{CellPlace, all_cells, cell_candidates, first_meant, library_candidates, link_meant, place_in, top, top_meant}
use Rattle.edif_design.specs.Tables.{places_from}
use Rattle.edif_resolve.proofs.Walking.{taken}

-- where an item of two lists stands
pub split_get : {A : Type 0} (xs ys : List A) (n : ℕ) (x : A) → slice_get (xs ++ ys) n ≡ Some x → ((n < length xs) × (slice_get xs n ≡ Some x)) ⊎ ((m : ℕ) × ((n ≡ length xs + m) × (slice_get ys m ≡ Some x)))
split_get [] ys n x e = inr (n, ((let f : n ≡ 0 + n = omega arith in f), e))
split_get (y ∷ xs) ys zero x e = inl ((omega arith), e)
split_get (y ∷ xs) ys (suc n) x e = elim (split_get xs ys n x e) [
  | inl a ↦ inl ((omega (arith, a.0)), a.1)
  | inr b ↦ inr (b.0, ((let f : suc n ≡ suc (length xs) + b.0 = omega (arith, b.1.0) in f), b.1.1))
]

-- where an item of a list of images comes from
pub map_get : {A B : Type 0} (f : A → B) (xs : List A) (n : ℕ) (y : B) → slice_get (map f xs) n ≡ Some y → (x : A) × ((slice_get xs n ≡ Some x) × (f x ≡ y))
map_get f [] n y e = absurd (cc)
map_get f (x ∷ xs) zero y e = (x, (refl, (let g : f x ≡ y = cc in g)))
map_get f (x ∷ xs) (suc n) y e = map_get f xs n y e

cond_clean : {A : Type 0} (b : Bool) (xs : List A) → b ≡ true → cond b xs [] ≡ [] → xs ≡ []
cond_clean true xs h e = e
cond_clean false xs h e = absurd (false≢true h)

module _ (file : EdifFile) where
  libraries_more : (before : List FileItem) (item : FileItem) → libraries_in (before ++ item ∷ []) ≡ libraries_in before ++ libraries_in (item ∷ [])
  libraries_more before item = filter_map-append library_in before (item ∷ [])

  same_libraries : (before : List FileItem) (item : FileItem) → libraries_in (item ∷ []) ≡ [] → libraries_in (before ++ item ∷ []) ≡ libraries_in before
  same_libraries before item e = libraries_more before item ∙ (ap (λ ls. libraries_in before ++ ls) e ∙ append-nil (libraries_in before))

  -- a reached cell of a library that breaks nothing breaks nothing
  library_clean : (library : ℕ) (first : ℕ) (cells : List Cell) → in_order (library_cell_refusals file library first) cells ≡ [] → (n : ℕ) (cell : Cell) → slice_get cells n ≡ Some cell → is_reached file (first + n) ≡ true
      → cell_refusals file (place_in library cell) ≡ []
  library_clean library first cells h n cell e reached =
      let within : n < length cells = slice_get_within cells n cell e in
      let all : library_cell_refusals file library first (take n cells) (get_or cells n cell) ≡ [] = in_order_none (library_cell_refusals file library first) cells h n cell within in
      let one : library_cell_refusals file library first (take n cells) cell ≡ [] = ap (λ c. library_cell_refusals file library first (take n cells) c) (sym (get_or_from_slice_get cells n cell cell e)) ∙ all in
      let parts : reached_refusals file (first + length (take n cells)) (place_in library cell) ≡ [] = none_right (second_cell (take n cells) cell) (reached_refusals file (first + length (take n cells)) (place_in library cell)) one in
      cond_clean (is_reached file (first + n)) (cell_refusals file (place_in library cell)) reached (ap (λ m. reached_refusals file (first + m) (place_in library cell)) (sym (taken cells n within)) ∙ parts)

  walk_clean : (before items : List FileItem) (k first : ℕ) → k ≡ length (libraries_in before) → first ≡ cells_before before → each_after (file_item_refusals file) before items ≡ []
      → (n : ℕ) (place : CellPlace) → slice_get (places_from k (libraries_in items)) n ≡ Some place → is_reached file (first + n) ≡ true → cell_refusals file place ≡ []
  walk_clean before [] k first is_k is_first h n place e reached = absurd (cc)
  walk_clean before (file_items.Library library ∷ rest) k first is_k is_first h n place e reached =
      elim (split_get (map (place_in k) (cells_in library)) (places_from (k + 1) (libraries_in rest)) n place e) [
        | inl a ↦ (let found = map_get (place_in k) (cells_in library) n place a.1 in subst (λ p. cell_refusals file p ≡ []) found.1.1 (library_clean k first (cells_in library) own n found.0 found.1.0 reached))
        | inr b ↦ walk_clean (before ++ file_items.Library library ∷ []) rest (k + 1) (first + length (cells_in library)) more_k more_first later b.0 place b.1.1
            (subst (λ m. is_reached file m ≡ true) (let f : first + n ≡ first + length (cells_in library) + b.0 = omega (arith, b.1.0, length-map (cells_in library) (place_in k)) in f) reached)
      ]
    where
      here : file_item_refusals file before (file_items.Library library) ≡ []
      here = none_left (file_item_refusals file before (file_items.Library library)) (each_after (file_item_refusals file) (before ++ file_items.Library library ∷ []) rest) h

      later : each_after (file_item_refusals file) (before ++ file_items.Library library ∷ []) rest ≡ []
      later = none_right (file_item_refusals file before (file_items.Library library)) (each_after (file_item_refusals file) (before ++ file_items.Library library ∷ []) rest) h

      own : in_order (library_cell_refusals file k first) (cells_in library) ≡ []
      own = (λ j. in_order (library_cell_refusals file (is_k j) (is_first j)) (cells_in library))
          ∙ none_right (second_library (libraries_in before) library) (in_order (library_cell_refusals file (length (libraries_in before)) (cells_before before)) (cells_in library)) here

      more : libraries_in (before ++ file_items.Library library ∷ []) ≡ libraries_in before ++ library ∷ []
      more = libraries_more before (file_items.Library library)

      more_k : k + 1 ≡ length (libraries_in (before ++ file_items.Library library ∷ []))
      more_k = ap (λ m. m + 1) is_k ∙ (sym (length-append (libraries_in before) (library ∷ [])) ∙ ap length (sym more))

      more_first : first + length (cells_in library) ≡ cells_before (before ++ file_items.Library library ∷ [])
      more_first =
          ap (λ m. m + length (cells_in library)) is_first
          ∙ (sym (length-append (flat_map cells_in (libraries_in before)) (cells_in library))
          ∙ (ap (λ cs. length (flat_map cells_in (libraries_in before) ++ cs)) (sym (append-nil (cells_in library)))
          ∙ (ap length (sym (flat_map-append cells_in (libraries_in before) (library ∷ []))) ∙ ap (λ ls. length (flat_map cells_in ls)) (sym more))))
  walk_clean before (file_items.Design design ∷ rest) k first is_k is_first h n place e reached =
      walk_clean (before ++ file_items.Design design ∷ []) rest k first (is_k ∙ ap length (sym (same_libraries before (file_items.Design design) refl))) (is_first ∙ ap (λ ls. length (flat_map cells_in ls)) (sym (same_libraries before (file_items.Design design) refl)))
      (none_right (file_item_refusals file before (file_items.Design design)) (each_after (file_item_refusals file) (before ++ file_items.Design design ∷ []) rest) h) n place e reached
  walk_clean before (file_items.Status status ∷ rest) k first is_k is_first h n place e reached =
      walk_clean (before ++ file_items.Status status ∷ []) rest k first (is_k ∙ ap length (sym (same_libraries before (file_items.Status status) refl))) (is_first ∙ ap (λ ls. length (flat_map cells_in ls)) (sym (same_libraries before (file_items.Status status) refl)))
      h n place e reached
  walk_clean before (file_items.Note note ∷ rest) k first is_k is_first h n place e reached =
      walk_clean (before ++ file_items.Note note ∷ []) rest k first (is_k ∙ ap length (sym (same_libraries before (file_items.Note note) refl))) (is_first ∙ ap (λ ls. length (flat_map cells_in ls)) (sym (same_libraries before (file_items.Note note) refl)))
      h n place e reached

  items_clean : refusals file ≡ [] → in_order (file_item_refusals file) file.items ≡ []
  unfolding refusals
  items_clean h = none_right (design_count_refusals (designs file)) (in_order (file_item_refusals file) file.items) h

  -- a reached cell breaks nothing
  pub reached_clean : refusals file ≡ [] → (n : ℕ) (place : CellPlace) → slice_get (all_cells file) n ≡ Some place → is_reached file n ≡ true → cell_refusals file place ≡ []
  reached_clean h n place e reached = walk_clean [] file.items 0 0 refl refl (items_clean h) n place e (subst (λ m. is_reached file m ≡ true) (let f : n ≡ 0 + n = omega arith in f) reached)

  designs_clean : (before items : List FileItem) → each_after (file_item_refusals file) before items ≡ [] → AllByRecursion (λ design. design_refusals file design ≡ []) (filter_map design_in items)
  designs_clean before [] h = tt
  designs_clean before (file_items.Library library ∷ rest) h =
      designs_clean (before ++ file_items.Library library ∷ []) rest (none_right (file_item_refusals file before (file_items.Library library)) (each_after (file_item_refusals file) (before ++ file_items.Library library ∷ []) rest) h)
  designs_clean before (file_items.Design design ∷ rest) h = (
    none_left (design_refusals file design) (each_after (file_item_refusals file) (before ++ file_items.Design design ∷ []) rest) h,
    designs_clean (before ++ file_items.Design design ∷ []) rest (none_right (design_refusals file design) (each_after (file_item_refusals file) (before ++ file_items.Design design ∷ []) rest) h),
  )
  designs_clean before (file_items.Status status ∷ rest) h = designs_clean (before ++ file_items.Status status ∷ []) rest h
  designs_clean before (file_items.Note note ∷ rest) h = designs_clean (before ++ file_items.Note note ∷ []) rest h

  cell_there : (cell spelling : List ℕ) (xs : List (ℕ × CellPlace)) → broken_reference xs E3 cell (spelling ∷ []) spelling ≡ [] → (place : ℕ × CellPlace) × (the_only xs ≡ Some place)
  cell_there cell spelling [] h = absurd (cc)
  cell_there cell spelling (one ∷ []) h = (one, refl)
  cell_there cell spelling (one ∷ (two ∷ rest)) h = absurd (cc)

  both_there : (cell spelling name : List ℕ) (ys : List (ℕ × Library)) (cells : ℕ → List (ℕ × CellPlace))
      → broken_reference ys E2 cell (name ∷ []) name ++ if_some (option_map (λ library. library.0) (the_only ys)) (λ number. broken_reference (cells number) E3 cell (spelling ∷ []) spelling) ≡ []
      → (place : ℕ × CellPlace) × (option_and_then (λ number. the_only (cells number)) (option_map (λ library. library.0) (the_only ys)) ≡ Some place)
  both_there cell spelling name [] cells h = absurd (cc)
  both_there cell spelling name (one ∷ []) cells h = cell_there cell spelling (cells one.0) h
  both_there cell spelling name (one ∷ (two ∷ rest)) cells h = absurd (cc)

  -- a cellRef that breaks nothing means a cell
  pub link_there : (home : ℕ) (cell : List ℕ) (library : Option (List ℕ)) (spelling : List ℕ) → link_refusals file home cell library spelling ≡ [] → (place : ℕ × CellPlace) × (link_meant file home library spelling ≡ Some place)
  link_there home cell None spelling h = cell_there cell spelling (cell_candidates file home spelling) h
  link_there home cell (Some name) spelling h = both_there cell spelling name (library_candidates file name) (λ number. cell_candidates file number spelling) h

  top_of_designs : (found : List Design) → design_count_refusals found ≡ [] → AllByRecursion (λ design. design_refusals file design ≡ []) found → (place : ℕ × CellPlace) × (first_meant (map (top_meant file) found) ≡ Some place)
  top_of_designs [] h all = absurd (cc)
  top_of_designs (design ∷ rest) h all =
      link_there 0 [] (Some design.library) design.cell (none_left (link_refusals file 0 [] (Some design.library) design.cell) (if_some (top_meant file design) (λ place. broken (is_none (slice_get (views place.1.cell) 0)) E4 [] (design.cell ∷ []))) all.0)

  -- the top is meant
  pub top_there : refusals file ≡ [] → (place : ℕ × CellPlace) × (top file ≡ Some place)
  unfolding refusals
  top_there h = top_of_designs (designs file) (none_left (design_count_refusals (designs file)) (in_order (file_item_refusals file) file.items) h) (designs_clean [] file.items (items_clean h))

  instances_in_clean : (place : CellPlace) (before items : List ContentsItem) → each_after (contents_refusals file place) before items ≡ []
      → each_after (instance_refusals file place.library (original place.cell.name)) (filter_map instance_in before) (filter_map instance_in items) ≡ []
  instances_in_clean place before [] h = refl
  instances_in_clean place before (contents_items.Instance instance ∷ rest) h =
      let a : instance_refusals file place.library (original place.cell.name) (filter_map instance_in before) instance ≡ [] =
      none_left (contents_refusals file place before (contents_items.Instance instance)) (each_after (contents_refusals file place) (before ++ contents_items.Instance instance ∷ []) rest) h in
      let b = instances_in_clean place (before ++ contents_items.Instance instance ∷ []) rest
      (none_right (contents_refusals file place before (contents_items.Instance instance)) (each_after (contents_refusals file place) (before ++ contents_items.Instance instance ∷ []) rest) h) in
      let e : filter_map instance_in (before ++ contents_items.Instance instance ∷ []) ≡ filter_map instance_in before ++ instance ∷ [] = filter_map-append instance_in before (contents_items.Instance instance ∷ []) in
      let d : each_after (instance_refusals file place.library (original place.cell.name)) (filter_map instance_in before ++ instance ∷ []) (filter_map instance_in rest) ≡ [] =
      ap (λ earlier. each_after (instance_refusals file place.library (original place.cell.name)) earlier (filter_map instance_in rest)) (sym e) ∙ b in
      (λ j. a j ++ d j)
  instances_in_clean place before (contents_items.Net net ∷ rest) h =
      let e : filter_map instance_in (before ++ contents_items.Net net ∷ []) ≡ filter_map instance_in before = filter_map-append instance_in before (contents_items.Net net ∷ []) ∙ append-nil (filter_map instance_in before) in
      ap (λ earlier. each_after (instance_refusals file place.library (original place.cell.name)) earlier (filter_map instance_in rest)) (sym e)
      ∙ instances_in_clean place (before ++ contents_items.Net net ∷ []) rest (none_right (contents_refusals file place before (contents_items.Net net)) (each_after (contents_refusals file place) (before ++ contents_items.Net net ∷ []) rest) h)
  instances_in_clean place before (contents_items.Note note ∷ rest) h =
      let e : filter_map instance_in (before ++ contents_items.Note note ∷ []) ≡ filter_map instance_in before = filter_map-append instance_in before (contents_items.Note note ∷ []) ∙ append-nil (filter_map instance_in before) in
      ap (λ earlier. each_after (instance_refusals file place.library (original place.cell.name)) earlier (filter_map instance_in rest)) (sym e)
      ∙ instances_in_clean place (before ++ contents_items.Note note ∷ []) rest h

  -- the ports and the instances of a cell that breaks nothing
  pub ports_clean : (place : CellPlace) → cell_refusals file place ≡ [] → in_order (port_refusals (original place.cell.name)) (ports place.cell) ≡ []
  unfolding cell_refusals
  ports_clean place h = none_left (in_order (port_refusals (original place.cell.name)) (ports place.cell)) (in_order (contents_refusals file place) (cell_contents place.cell)) h

  pub instances_clean : (place : CellPlace) → cell_refusals file place ≡ [] → in_order (instance_refusals file place.library (original place.cell.name)) (instances place.cell) ≡ []
  unfolding cell_refusals
  instances_clean place h =
      instances_in_clean place [] (cell_contents place.cell) (none_right (in_order (port_refusals (original place.cell.name)) (ports place.cell)) (in_order (contents_refusals file place) (cell_contents place.cell)) h)
