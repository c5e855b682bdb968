-- The instances of a reached cell that breaks no rule, in the design.
use Rattle.std.proofs.Common.{◌≡◌, ℕ, zero, suc, ◌+◌, true, false, List, [], ◌∷◌, ◌++◌, map, take, get_or, slice_get, Option, Some, None, refl, sym, ap, ◌∙◌, arith}
use Rattle.std.specs.Prelude.{option_map, codes}
use Rattle.std.specs.List.{cons_option}
use Rattle.std.specs.Option.{option_and_then}
use Rattle.std.proofs.lemmas.Option.{get_or_from_slice_get, slice_get-map, slice_get_within}
use Rattle.nl_base.specs.declared.rule.Refusal.{Refusal}
use Rattle.nl_base.specs.declared.rule.Rule.TheVariants.{E5, E12}
use Rattle.net_graph.specs.Graph.{IsAbove, IsReached}
use Rattle.net_graph.specs.Marks.{IsReachable, itself, below}
use Rattle.net_graph.proofs.WalkLaws.{linked_along, linked_by, linked_itself}
use Rattle.net_graph.proofs.WorkLaws.{has_above}
use Rattle.net_hier.specs.Design.{below_of}
use Rattle.net_hier.specs.Design.{cells_below as design_below}
use Rattle.net_hier.specs.declared.cells.HInst.{HInst}
use Rattle.edif_lookup.specs.Refusals.{broken, is_in}
use Rattle.edif_lookup.proofs.Orders.{in_order_none, none_left, none_right}
use Rattle.edif_values.specs.Names.{original}
use Rattle.edif_values.specs.declared.instance.Instance.{Instance}
use Rattle.edif_values.specs.declared.file.EdifFile.{EdifFile}
use Rattle.edif_design.specs.CellRules.{inner_cell, instance_refusals, link_refusals, view_refusals}
use Rattle.edif_design.specs.Design.{cell_value, edif_cells, instance_value, number_in, numbers_in_design}
use Rattle.edif_design.specs.FileRules.{refusals}
use Rattle.edif_design.specs.Parts.{instances, numbered}
use Rattle.edif_design.specs.Reach.{cells_below, is_reached, those_meant}
use Rattle.edif_design.specs.References.{CellPlace, all_cells, cell_meant, file_cells, linked_cell, number_meant, numbers_meant, top, with_number}
use Rattle.edif_resolve.proofs.Clean.{instances_clean, link_there, map_get, reached_clean}
use Rattle.edif_resolve.proofs.Numbers.{meant_stands}
use Rattle.edif_resolve.proofs.Recursion.{numbered_get, numbered_is}
use Rattle.edif_resolve.proofs.Renumbering.{below_reached, design_at, reached_by}
use Rattle.edif_resolve.proofs.Widths.{unbroken}

-- what is kept of a list of options stands where the option does, further on
those_there : (xs : List (Option ℕ)) (i x : ℕ) → slice_get xs i ≡ Some (Some x) → (k : ℕ) × (slice_get (those_meant xs) k ≡ Some x)
those_there [] i x e = absurd (cc)
those_there (o ∷ xs) zero x e = let f : o ≡ Some x = cc in (0, ap (λ p. slice_get (cons_option p (those_meant xs)) 0) f)
those_there (None ∷ xs) (suc i) x e = those_there xs i x e
those_there (Some y ∷ xs) (suc i) x e = let r = those_there xs i x e in (suc r.0, r.1)

those_from : (xs : List (Option ℕ)) (k x : ℕ) → slice_get (those_meant xs) k ≡ Some x → (i : ℕ) × (slice_get xs i ≡ Some (Some x))
those_from [] k x e = absurd (cc)
those_from (None ∷ xs) k x e = let r = those_from xs k x e in (suc r.0, r.1)
those_from (Some y ∷ xs) zero x e = let f : y ≡ x = cc in (0, ap (λ z. Some (Some z)) f)
those_from (Some y ∷ xs) (suc k) x e = let r = those_from xs k x e in (suc r.0, r.1)

pub number_some : (o : Option (ℕ × CellPlace)) (x : ℕ) → number_meant o ≡ Some x → (found : ℕ × CellPlace) × ((o ≡ Some found) × (found.0 ≡ x))
number_some None x e = absurd (cc)
number_some (Some found) x e = (found, (refl, (let f : found.0 ≡ x = cc in f)))

module _ (file : EdifFile) where
  numbers : List ℕ
  numbers = numbers_in_design file

  meant_cell : (o : Option (ℕ × CellPlace)) → ((found : ℕ × CellPlace) → o ≡ Some found → slice_get (all_cells file) found.0 ≡ Some found.1)
      → option_and_then (with_number (file_cells file)) (number_meant o) ≡ option_map (λ found. (found.0, found.1.cell)) o
  meant_cell None h = refl
  meant_cell (Some found) h = ap (option_map (λ cell. (found.0, cell))) (slice_get-map (λ place. place.cell) (all_cells file) found.0 ∙ ap (option_map (λ place. place.cell)) (h found refl))

  -- the cell below an instance is the one that is meant
  pub below_at : (place : CellPlace) (i : ℕ) (instance : Instance) → slice_get (instances place.cell) i ≡ Some instance
      → get_or (linked_cell file place).below i None ≡ option_map (λ found. (found.0, found.1.cell)) (cell_meant file place.library instance)
  below_at place i instance e =
      get_or_from_slice_get (linked_cell file place).below i (option_and_then (with_number (file_cells file)) (number_meant (cell_meant file place.library instance))) None
      (slice_get-map (option_and_then (with_number (file_cells file))) (numbers_meant file place) i
      ∙ ap (option_map (option_and_then (with_number (file_cells file)))) (slice_get-map (λ u. number_meant (cell_meant file place.library u)) (instances place.cell) i ∙ ap (option_map (λ u. number_meant (cell_meant file place.library u))) e))
      ∙ meant_cell (cell_meant file place.library instance) (λ found g. meant_stands file place.library instance.library instance.cell found g)

  -- the number that an instance of the design has
  pub instance_number : (place : CellPlace) (i : ℕ) (instance : Instance) (found : ℕ × CellPlace) → slice_get (instances place.cell) i ≡ Some instance → cell_meant file place.library instance ≡ Some found
      → (instance_value (numbers_in_design file) (linked_cell file place).below (i, instance)).cell ≡ get_or (numbers_in_design file) found.0 0
  instance_number place i instance found e g =
      ap (λ o. number_in (numbers_in_design file) (option_map (λ inner. inner.0) o)) (below_at place i instance e ∙ ap (option_map (λ f. (f.0, f.1.cell))) g)

  -- the instance of the file stands below its cell
  pub instance_above : (n : ℕ) (place : CellPlace) (i : ℕ) (instance : Instance) (found : ℕ × CellPlace) → slice_get (all_cells file) n ≡ Some place → slice_get (instances place.cell) i ≡ Some instance → cell_meant file place.library instance ≡ Some found
      → IsAbove (cells_below file) n found.0
  instance_above n place i instance found e g h =
      let r = those_there (numbers_meant file place) i found.0 (slice_get-map (λ u. number_meant (cell_meant file place.library u)) (instances place.cell) i ∙ (ap (option_map (λ u. number_meant (cell_meant file place.library u))) g ∙ ap (λ o. Some (number_meant o)) h)) in
      record {
        numbers = those_meant (numbers_meant file place);
        are_below = slice_get-map (λ p. those_meant (numbers_meant file p)) (all_cells file) n ∙ ap (option_map (λ p. those_meant (numbers_meant file p))) e;
        place = r.0;
        is_there = r.1;
      }

  -- an instance of the design at the same place
  pub instance_there : (place : CellPlace) (i : ℕ) (instance : Instance) → slice_get (instances place.cell) i ≡ Some instance
      → slice_get (cell_value (numbers_in_design file) (linked_cell file place)).instances i ≡ Some (instance_value (numbers_in_design file) (linked_cell file place).below (i, instance))
  unfolding cell_value
  instance_there place i instance e =
      slice_get-map (instance_value (numbers_in_design file) (linked_cell file place).below) (numbered (instances place.cell)) i
      ∙ ap (option_map (instance_value (numbers_in_design file) (linked_cell file place).below)) (numbered_get 0 (instances place.cell) i instance e ∙ ap (λ m. Some (m, instance)) (let f : 0 + i ≡ i = omega arith in f))

  -- where an instance of the design comes from
  pub instance_from : (place : CellPlace) (i : ℕ) (made : HInst) → slice_get (cell_value (numbers_in_design file) (linked_cell file place)).instances i ≡ Some made
      → (instance : Instance) × ((slice_get (instances place.cell) i ≡ Some instance) × (instance_value (numbers_in_design file) (linked_cell file place).below (i, instance) ≡ made))
  unfolding cell_value
  instance_from place i made e =
      let found = map_get (instance_value (numbers_in_design file) (linked_cell file place).below) (numbered (instances place.cell)) i made e in
      let item : ℕ × Instance = found.0 in
      let r = numbered_is 0 (instances place.cell) i item found.1.0 in
      (item.1, (r.1, (ap (λ m. instance_value (numbers_in_design file) (linked_cell file place).below (m, item.1)) (sym (r.0 ∙ (let f : 0 + i ≡ i = omega arith in f))) ∙ found.1.1)))

  module _ (clean : refusals file ≡ []) where
    module _ (n : ℕ) (place : CellPlace) (e : slice_get (all_cells file) n ≡ Some place) (reached : is_reached file n ≡ true) where
      abbrev cell_name : List ℕ
      cell_name = original place.cell.name

      abbrev second_one : ℕ → Instance → List Refusal
      second_one i u = broken (is_in u.name.ident (map (λ other. other.name.ident) (take i (instances place.cell)))) E5 cell_name (codes "instance" ∷ (u.name.ident ∷ []))

      abbrev same_named : ℕ → Instance → List Refusal
      same_named i u = broken (is_in (original u.name) (map (λ other. original other.name) (take i (instances place.cell)))) E12 cell_name (codes "instance" ∷ (original u.name ∷ []))

      instance_clean : (i : ℕ) (u : Instance) → slice_get (instances place.cell) i ≡ Some u → instance_refusals file place.library cell_name (take i (instances place.cell)) u ≡ []
      instance_clean i u g =
          ap (instance_refusals file place.library cell_name (take i (instances place.cell))) (sym (get_or_from_slice_get (instances place.cell) i u u g))
          ∙ in_order_none (instance_refusals file place.library cell_name) (instances place.cell) (instances_clean file place (reached_clean file clean n place e reached)) i u (slice_get_within (instances place.cell) i u g)

      -- each instance is of a cell
      pub instance_meant : (i : ℕ) (u : Instance) → slice_get (instances place.cell) i ≡ Some u → (found : ℕ × CellPlace) × (cell_meant file place.library u ≡ Some found)
      instance_meant i u g =
          link_there file place.library cell_name u.library u.cell
          (none_right (second_one i u) (link_refusals file place.library cell_name u.library u.cell)
          (none_left (second_one i u ++ link_refusals file place.library cell_name u.library u.cell) (view_refusals cell_name u.view (inner_cell file place.library u))
          (none_left (second_one i u ++ link_refusals file place.library cell_name u.library u.cell ++ view_refusals cell_name u.view (inner_cell file place.library u)) (same_named i u) (instance_clean i u g))))

      -- no instance has the name of one before it
      pub instance_names_clean : (i : ℕ) (u : Instance) → slice_get (instances place.cell) i ≡ Some u → is_in (original u.name) (map (λ other. original other.name) (take i (instances place.cell))) ≡ false
      instance_names_clean i u g =
          unbroken (is_in (original u.name) (map (λ other. original other.name) (take i (instances place.cell)))) E12 cell_name (codes "instance" ∷ (original u.name ∷ []))
          (none_right (second_one i u ++ link_refusals file place.library cell_name u.library u.cell ++ view_refusals cell_name u.view (inner_cell file place.library u)) (same_named i u) (instance_clean i u g))

    module _ (start : ℕ × CellPlace) (is_top : top file ≡ Some start) where
      -- the cell of an instance of a reached cell stands in the design
      pub inner_there : (n : ℕ) (place : CellPlace) (i : ℕ) (u : Instance) (found : ℕ × CellPlace) → slice_get (all_cells file) n ≡ Some place → is_reached file n ≡ true → slice_get (instances place.cell) i ≡ Some u
          → cell_meant file place.library u ≡ Some found → (is_reached file found.0 ≡ true) × (slice_get (edif_cells file) (get_or (numbers_in_design file) found.0 0) ≡ Some (cell_value (numbers_in_design file) (linked_cell file found.1)))
      inner_there n place i u found e reached g h =
          let r : is_reached file found.0 ≡ true = below_reached file start is_top n found.0 reached (instance_above n place i u found e g h) in
          (r, design_at file found.0 found.1 (meant_stands file place.library u.library u.cell found h) r)

      step_down : (outer inner : ℕ) → is_reached file outer ≡ true → IsAbove (cells_below file) outer inner → IsAbove (design_below (edif_cells file)) (get_or (numbers_in_design file) outer 0) (get_or (numbers_in_design file) inner 0)
      step_down outer inner reached above =
          let list = map_get (λ p. those_meant (numbers_meant file p)) (all_cells file) outer above.numbers above.are_below in
          let place : CellPlace = list.0 in
          let at = those_from (numbers_meant file place) above.place inner (ap (λ ns. slice_get ns above.place) list.1.1 ∙ above.is_there) in
          let from = map_get (λ u. number_meant (cell_meant file place.library u)) (instances place.cell) at.0 (Some inner) at.1 in
          let meant = number_some (cell_meant file place.library from.0) inner from.1.1 in
          record {
            numbers = below_of (cell_value (numbers_in_design file) (linked_cell file place));
            are_below = slice_get-map below_of (edif_cells file) (get_or (numbers_in_design file) outer 0) ∙ ap (option_map below_of) (design_at file outer place list.1.0 reached);
            place = at.0;
            is_there = slice_get-map (λ u. u.cell) (cell_value (numbers_in_design file) (linked_cell file place)).instances at.0
                ∙ (ap (option_map (λ u. u.cell)) (instance_there place at.0 from.0 from.1.0)
                ∙ ap Some (instance_number place at.0 from.0 meant.0 from.1.0 meant.1.0 ∙ ap (λ m. get_or (numbers_in_design file) m 0) meant.1.1));
          }

      -- what is reached in the file is reached in the design
      pub design_reached : (n : ℕ) → IsReachable (cells_below file) start.0 n → is_reached file n ≡ true → IsReached (design_below (edif_cells file)) (get_or (numbers_in_design file) start.0 0) (get_or (numbers_in_design file) n 0)
      design_reached n itself reached = linked_itself (IsAbove (design_below (edif_cells file))) (get_or (numbers_in_design file) start.0 0)
      design_reached n (below {outer = outer} r b) reached =
          linked_along (design_reached outer r (reached_by file start is_top outer r)) (linked_by (step_down outer n (reached_by file start is_top outer r) (has_above (cells_below file) outer n b)))
