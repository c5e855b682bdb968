-- A generated file breaks none of the rules E1 to E12.
use Rattle.std.proofs.Common.{arith, ◌≡◌, ℕ, zero, suc, ◌+◌, ◌-◌, ◌<◌, ◌≤◌, ◌^◌, Bool, true, false, cond, List, [], ◌∷◌, ◌++◌, Some, length, map, refl, ap, ◌∙◌, subst}
use Rattle.std.specs.Prelude.{codes, slice_get, is_none, option_map}
use Rattle.std.proofs.lemmas.List.FromFn.{length-map-range_with_len}
use Rattle.std.proofs.lemmas.Option.{slice_get_within}
use Rattle.nl_base.specs.declared.rule.Rule.TheVariants.{E3, E4, E5}
use Rattle.edif_values.specs.declared.cell.Cell.{Cell}
use Rattle.edif_values.specs.declared.file.EdifFile.{EdifFile}
use Rattle.edif_lookup.specs.Candidates.{the_only}
use Rattle.edif_lookup.specs.Refusals.{broken, broken_reference, if_some, in_order, is_in}
use Rattle.edif_values.specs.declared.net.Net.{Net}
use Rattle.edif_design.specs.CellRules.{cell_refusals, instance_refusals, net_refusals, view_refusals}
use Rattle.edif_design.specs.FileRules.{design_refusals, library_cell_refusals, refusals}
use Rattle.edif_design.specs.Parts.{cells_in, views}
use Rattle.edif_design.specs.Reach.{is_reached}
use Rattle.edif_design.specs.References.{linked_cell, place_in}
use Rattle.net_graph.proofs.ListLaws.{same_element}
use Rattle.edif_written.proofs.Rules.{at_split, in_order_none, none_before, not_broken}
use Rattle.vectors.specs.Cells.{cell, cell_ident, first_net, instance, last_net, middle_net}
use Rattle.vectors.specs.Files.{cells_of, design, generated, library}
use Rattle.vectors.specs.Numbers.{is_swapped}
use Rattle.vectors_laws.proofs.Files.{above, apart, candidates_are, cell_there, ident, linked, linked_is}
use Rattle.vectors_laws.proofs.Lists.{these_cells}

cond_none : {A : Type 0} (b : Bool) (r : List A) → r ≡ [] → cond b r [] ≡ []
cond_none true r e = e
cond_none false r e = refl

module _ (seed count : ℕ) (small : count ≤ 2 ^ 64) where
  abbrev file : EdifFile
  file = generated seed count

  -- ---- a cell

  abbrev name_above : ℕ → List ℕ
  name_above below = cell_ident (suc below)

  first_instance : (below : ℕ) → below < count → instance_refusals file 0 (name_above below) [] (instance (codes "a") below) ≡ []
  first_instance below lt = λ j.
      broken_reference (candidates_are seed count small below lt j) E3 (name_above below) (cell_ident below ∷ []) (cell_ident below)
      ++ view_refusals (name_above below) (codes "v") (option_map (λ place. place.1.cell) (the_only (candidates_are seed count small below lt j)))
      ++ []

  second_instance : (below : ℕ) → below < count → instance_refusals file 0 (name_above below) (instance (codes "a") below ∷ []) (instance (codes "b") below) ≡ []
  second_instance below lt = λ j.
      broken_reference (candidates_are seed count small below lt j) E3 (name_above below) (cell_ident below ∷ []) (cell_ident below)
      ++ view_refusals (name_above below) (codes "v") (option_map (λ place. place.1.cell) (the_only (candidates_are seed count small below lt j)))
      ++ []

  module _ (below : ℕ) (lt : below < count) where
    nets_clean : (swapped : Bool) (before : List Net) (net : Net) → net_refusals (linked seed count small swapped below) before net ≡ [] → net_refusals (linked_cell file (place_in 0 (above swapped below))) before net ≡ []
    nets_clean swapped before net clean = ap (λ l. net_refusals l before net) (linked_is seed count small swapped below lt) ∙ clean

    pub clean_above : (swapped : Bool) → cell_refusals file (place_in 0 (above swapped below)) ≡ []
    unfolding cell_refusals
    clean_above true =
        let i : Net = first_net (codes "b") in
        let m : Net = middle_net (codes "b") (codes "a") in
        let o : Net = last_net (codes "a") in
        λ j. first_instance below lt j ++ (second_instance below lt j ++ (nets_clean true [] i refl j ++ (nets_clean true (i ∷ []) m refl j ++ (nets_clean true (i ∷ (m ∷ [])) o refl j ++ []))))
    clean_above false =
        let i : Net = first_net (codes "a") in
        let m : Net = middle_net (codes "a") (codes "b") in
        let o : Net = last_net (codes "b") in
        λ j. first_instance below lt j ++ (second_instance below lt j ++ (nets_clean false [] i refl j ++ (nets_clean false (i ∷ []) m refl j ++ (nets_clean false (i ∷ (m ∷ [])) o refl j ++ []))))

  clean_first : cell_refusals file (place_in 0 (cell seed 0)) ≡ []
  unfolding cell_refusals
  clean_first = refl

  clean : (k : ℕ) → k < count → cell_refusals file (place_in 0 (cell seed k)) ≡ []
  clean zero lt = clean_first
  clean (suc below) lt = clean_above below (omega (arith, lt)) (is_swapped seed (suc below))

  -- ---- the file

  abbrev cells : List Cell
  cells = cells_of seed count

  clean_at : (k : ℕ) (c : Cell) → slice_get cells k ≡ Some c → cell_refusals file (place_in 0 c) ≡ []
  clean_at k c there =
      let lt : k < count = (let inside = slice_get_within cells k c there in let long : length cells ≡ count = length-map-range_with_len (cell seed) 0 count in omega (arith, inside, long)) in
      subst (λ (d : Cell). cell_refusals file (place_in 0 d) ≡ []) (same_element cells k (cell seed k) c (cell_there seed count small k lt) there) (clean k lt)

  library_none : in_order (library_cell_refusals file 0 0) (cells_in (library cells)) ≡ []
  library_none = ap (in_order (library_cell_refusals file 0 0)) (these_cells cells) ∙ in_order_none (library_cell_refusals file 0 0) cells (λ before x after e.
      λ j. not_broken (is_in x.name.ident (map ident before)) (record { rule = E5; cell = []; names = codes "cell" ∷ (x.name.ident ∷ []) }) (none_before ident cells (apart seed count small) before x after e) j
      ++ cond_none (is_reached file (0 + length before)) (cell_refusals file (place_in 0 x)) (clean_at (length before) x (at_split before x after cells e)) j)

  design_none : (last : ℕ) → last < count → design_refusals file (design last) ≡ []
  unfolding generated
  design_none last lt = λ j.
      broken_reference (candidates_are seed count small last lt j) E3 [] (cell_ident last ∷ []) (cell_ident last)
      ++ if_some (the_only (candidates_are seed count small last lt j)) (λ place. broken (is_none (slice_get (views place.1.cell) 0)) E4 [] (cell_ident last ∷ []))

  pub file_clean : 0 < count → refusals file ≡ []
  unfolding refusals generated
  file_clean some = λ j. library_none j ++ (design_none (count - 1) (omega (arith, some)) j ++ [])
