-- Each cell of a planned file is reached from its top, so its number in the design is its number in the file.
use Rattle.std.proofs.Common.{arith, ◌≡◌, inl, inr, ℕ, ◌+◌, ◌<◌, Bool, true, List, [], ◌∷◌, Some, get_or, length, map, refl, sym, ap, ◌∙◌, subst}
use Rattle.std.specs.Prelude.{option_map, slice_get}
use Rattle.std.proofs.lemmas.List.{length-map}
use Rattle.std.proofs.lemmas.Option.{slice_get-map, slice_get_within}
use Rattle.edif_values.specs.declared.instance.Instance.{Instance}
use Rattle.edif_values.specs.declared.cell.Cell.{Cell}
use Rattle.edif_values.specs.declared.file.EdifFile.{EdifFile}
use Rattle.edif_design.specs.Design.{cell_value, edif_cells, edif_properties, edif_top, number_in, numbers_in_design}
use Rattle.edif_design.specs.FileRules.{refusals}
use Rattle.edif_design.specs.Parts.{instances}
use Rattle.edif_design.specs.Reach.{is_reached, reached_marks}
use Rattle.edif_design.specs.References.{CellPlace, all_cells, cell_meant, link_meant, linked_cell, number_meant, place_in, top}
use Rattle.edif_written.specs.Naming.{name_for}
use Rattle.edif_resolve.proofs.Linking.{inner_there}
use Rattle.edif_resolve.proofs.Renumbering.{ComesFrom, design_at, design_from, top_reached}
use Rattle.edif_written.specs.Written.{file_of, work}
use Rattle.edif_written.proofs.Cells.{all_cells_are, link_means}
use Rattle.edif_written.proofs.Parts.{instances_are}
use Rattle.edif_plans.specs.Summaries.{InstanceSummary, added_summary, instance_summary, own_summary}
use Rattle.edif_plans.specs.Plans.{constant_head, constant_number, head_at, head_of, number_of}
use Rattle.edif_plans.specs.References.{CellPlan, added_place}
use Rattle.edif_partners.proofs.AddedMeans.{IsAddedAt, added_at, get_right}
use Rattle.edif_partners.proofs.FileRules.{made_file_none}
use Rattle.edif_partners.proofs.Free.{get_left, shown_at}
use Rattle.edif_plans.specs.Missing.{IsNeeded}
use Rattle.edif_plans.specs.Planned.{IsMadeOf, IsPlannedFile}
use Rattle.edif_copies.proofs.Lists.{all_counted, as_many, passed, stands_once}
use Rattle.edif_copies.proofs.Placing.{IsCopy, are_made, are_placed, copy_at, head_for, kind_of}
use Rattle.net_graph.specs.Graph.{IsAbove}
use Rattle.net_graph.specs.Walks.{Leads}
use Rattle.net_graph.proofs.ListLaws.{element_there, same_element}
use Rattle.net_graph.proofs.MarkLaws.{marked_within}
use Rattle.net_hier.specs.Constants.{ConstantNames}
use Rattle.net_hier.specs.Design.{Design, cells_below}
use Rattle.net_hier.specs.SameCells.{NeedsConstant}
use Rattle.net_hier.specs.Valid.{IsValid}
use Rattle.net_hier.specs.declared.cells.HCell.{HCell}
use Rattle.net_hier.specs.declared.cells.HInst.{HInst}
use Rattle.net_hier.proofs.Building.{instance_of, list_of}
use Rattle.net_live.specs.Live.{needs_constant}
use Rattle.net_live.proofs.NeedLaws.{need_is}

-- an instance of the file is of the cell with this identifier in the library
record NamesCell (made : Cell) (i : ℕ) (ident : List ℕ) : Type 0 where
  pub instance : Instance
  pub is_there : slice_get (instances made) i ≡ Some instance
  pub library : instance.library ≡ Some work
  pub of_cell : instance.cell ≡ ident

module _ (names : ConstantNames) (design : Design) (file : EdifFile) (valid : IsValid design) (planned : IsPlannedFile names design file) where
  -- the file, by its parts
  abbrev pub whole : EdifFile
  whole = file_of planned.name planned.design_name planned.cells (head_of planned.plan design.top).cell

  abbrev pub TopCopy : Type 0
  TopCopy = (made : Cell) × IsCopy names design file valid planned design.top (number_of planned.plan design.top) made

  pub top_copy : TopCopy
  top_copy = copy_at names design file valid planned design.top valid.has_top

  top_ident : (head_of planned.plan design.top).cell ≡ top_copy.0.name.ident
  top_ident = (head_for names design file valid planned (number_of planned.plan design.top) top_copy.0 top_copy.1.is_there).cell

  -- no rule up to E12 is broken
  pub clean : refusals whole ≡ []
  clean = made_file_none planned.name planned.design_name planned.cells (head_of planned.plan design.top).cell names design planned.plan (are_made names design file valid planned) valid.good_cells
      (number_of planned.plan design.top) top_copy.0 top_copy.1.is_there top_ident

  abbrev pub start : ℕ × CellPlace
  start = (number_of planned.plan design.top, place_in 0 top_copy.0)

  pub is_top : top whole ≡ Some start
  unfolding file_of
  is_top = ap (link_meant whole 0 (Some work)) top_ident ∙ link_means planned.name planned.design_name planned.cells (head_of planned.plan design.top).cell 0 (number_of planned.plan design.top) top_copy.0 top_copy.1.is_there
      (are_placed names design file valid planned).apart

  pub no_properties : edif_properties whole ≡ []
  unfolding file_of
  no_properties = refl

  pub place_there : (i : ℕ) (made : Cell) → slice_get planned.cells i ≡ Some made → slice_get (all_cells whole) i ≡ Some (place_in 0 made)
  place_there i made there = ap (λ l. slice_get l i) (all_cells_are planned.name planned.design_name planned.cells (head_of planned.plan design.top).cell) ∙ (slice_get-map (place_in 0) planned.cells i ∙ ap (option_map (place_in 0)) there)

  -- ---- steps down in the file

  down : (outer inner : ℕ) (made below : Cell) (i : ℕ) → slice_get planned.cells outer ≡ Some made → slice_get planned.cells inner ≡ Some below → NamesCell made i below.name.ident → is_reached whole outer ≡ true → is_reached whole inner ≡ true
  down outer inner made below i there below_there named reached =
      let link : cell_meant whole 0 named.instance ≡ Some (inner, place_in 0 below) = (λ j. link_meant whole 0 (named.library j) (named.of_cell j))
      ∙ link_means planned.name planned.design_name planned.cells (head_of planned.plan design.top).cell 0 inner below below_there (are_placed names design file valid planned).apart in
      (inner_there whole clean start is_top outer (place_in 0 made) i named.instance (inner, place_in 0 below) (place_there outer made there) reached named.is_there link).0

  -- the instance at a place of what is made of a cell
  shown_instance : (number : ℕ) (made : Cell) (is : IsMadeOf names design planned.plan number made) (i : ℕ) (summary : InstanceSummary) → slice_get (map instance_summary is.is_made.made_instances) i ≡ Some summary → summary.library ≡ Some work → NamesCell made i summary.cell
  shown_instance number made is i summary at library =
      let c = is.is_made in
      let found = shown_at instance_summary c.made_instances i summary at in
      let all_instances : instances made ≡ c.made_instances = ap instances c.is_cell ∙ instances_are (name_for (head_of planned.plan number).cell is.cell.name) c.ports c.made_instances c.nets c.properties in
      record {
        instance = found.item;
        is_there = ap (λ (l : List Instance). slice_get l i) all_instances ∙ found.is_there;
        library = ap (λ (f : InstanceSummary). f.library) found.shows ∙ library;
        of_cell = ap (λ (f : InstanceSummary). f.cell) found.shows;
      }

  own_instance : (number : ℕ) (made : Cell) (is : IsMadeOf names design planned.plan number made) (i : ℕ) (instance : HInst) → slice_get is.cell.instances i ≡ Some instance → NamesCell made i (head_of planned.plan instance.cell).cell
  own_instance number made is i instance there =
      let c = is.is_made in
      shown_instance number made is i (own_summary planned.plan instance) (ap (λ (l : List InstanceSummary). slice_get l i) c.are_instances.summaries
      ∙ get_left (map (own_summary planned.plan) is.cell.instances) (map (added_summary planned.plan) c.instances.added) i (own_summary planned.plan instance) (slice_get-map (own_summary planned.plan) is.cell.instances i ∙ ap (option_map (own_summary planned.plan)) there)) refl

  added_instance : (number : ℕ) (made : Cell) (is : IsMadeOf names design planned.plan number made) (value : Bool) → needs_constant is.classes value ≡ true → NamesCell made (added_place is.is_made.instances value) (constant_head planned.plan value).cell
  added_instance number made is value needed =
      let c = is.is_made in
      let cell_plan : CellPlan = record { cells = design.cells; plan = planned.plan; cell = is.cell; head = head_of planned.plan number; instances = c.instances } in
      let a : IsAddedAt cell_plan value = added_at cell_plan is.classes c.are_added value needed in
      let p : ℕ = added_place c.instances value in
      let count : length (map (own_summary planned.plan) is.cell.instances) ≡ length is.cell.instances = length-map is.cell.instances (own_summary planned.plan) in
      let at : slice_get (map instance_summary c.made_instances) p ≡ Some (added_summary planned.plan a.one) = ap (λ (l : List InstanceSummary). slice_get l p) c.are_instances.summaries
      ∙ (get_right (map (own_summary planned.plan) is.cell.instances) (map (added_summary planned.plan) c.instances.added) p a.place (let e = a.at in omega (arith, e, count))
      ∙ (slice_get-map (added_summary planned.plan) c.instances.added a.place ∙ ap (option_map (added_summary planned.plan)) a.is_there)) in
      subst (λ v. NamesCell made p (constant_head planned.plan v).cell) a.is_value (shown_instance number made is p (added_summary planned.plan a.one) at refl)

  -- ---- reach

  one_down : (outer inner : ℕ) → IsAbove (cells_below design.cells) outer inner → is_reached whole (number_of planned.plan outer) ≡ true → is_reached whole (number_of planned.plan inner) ≡ true
  one_down outer inner above reached =
      let list = list_of design.cells outer above.numbers above.are_below in
      let at = instance_of list.cell above.place inner (ap (λ l. slice_get l above.place) list.are_below ∙ above.is_there) in
      let copy = copy_at names design file valid planned outer (slice_get_within design.cells outer list.cell list.is_cell) in
      let is = copy.1.is_made in
      let same : list.cell ≡ is.cell = same_element design.cells outer list.cell is.cell list.is_cell is.is_there in
      let below = copy_at names design file valid planned at.instance.cell ((valid.good_cells outer list.cell list.is_cell).instances_in_range above.place at.instance at.is_there) in
      let head = head_for names design file valid planned (number_of planned.plan at.instance.cell) below.0 below.1.is_there in
      let named = own_instance outer copy.0 is above.place at.instance (subst (λ (c : HCell). slice_get c.instances above.place ≡ Some at.instance) same at.is_there) in
      subst (λ m. is_reached whole (number_of planned.plan m) ≡ true) at.is_of
      (down (number_of planned.plan outer) (number_of planned.plan at.instance.cell) copy.0 below.0 above.place copy.1.is_there below.1.is_there (subst (NamesCell copy.0 above.place) head.cell named) reached)

  walk_down : (outer : ℕ) (places : List ℕ) (inner : ℕ) → Leads (IsAbove (cells_below design.cells)) outer places inner → is_reached whole (number_of planned.plan outer) ≡ true → is_reached whole (number_of planned.plan inner) ≡ true
  walk_down outer [] inner lead reached = subst (λ m. is_reached whole (number_of planned.plan m) ≡ true) lead reached
  walk_down outer (next ∷ places) inner lead reached = walk_down next places inner lead.1 (one_down outer next lead.0 reached)

  -- what is made of a cell is reached
  copy_reached : (number : ℕ) → number < length design.cells → is_reached whole (number_of planned.plan number) ≡ true
  copy_reached number inside = let walk = valid.reached number inside in walk_down design.top walk.places number walk.lead (top_reached whole start is_top)

  -- so is the new cell of a constant, below a cell that needs it
  new_reached : (i : ℕ) (made : Cell) → slice_get planned.cells i ≡ Some made → (value : Bool) → slice_get planned.values i ≡ Some value → is_reached whole i ≡ true
  new_reached i made there value at =
      let lacks = (planned.are_missing.tells value).0 (passed planned.are_missing.is_missing i value (subst (λ l. slice_get l i ≡ Some value) planned.are_missing.are_those at)) in
      let needed : IsNeeded design value = lacks.needed in
      let inside = slice_get_within design.cells needed.number needed.cell needed.is_there in
      let copy = copy_at names design file valid planned needed.number inside in
      let is = copy.1.is_made in
      let same : needed.cell ≡ is.cell = same_element design.cells needed.number needed.cell is.cell needed.is_there is.is_there in
      let needs : needs_constant is.classes value ≡ true = (need_is design.cells is.cell is.classes is.are_classes (valid.good_cells needed.number is.cell is.is_there).joins_in_range value).1
      (subst (λ (c : HCell). NeedsConstant design.cells c value) same needed.needs) in
      let number : constant_number planned.plan value ≡ i = elim (planned.is_plan.constants value needed) as (λ _. constant_number planned.plan value ≡ i) [
        | inl new ↦ stands_once planned.are_missing.is_missing (constant_number planned.plan value) i value (subst (λ l. slice_get l (constant_number planned.plan value) ≡ Some value) planned.are_missing.are_those new) (subst (λ l. slice_get l i ≡ Some value) planned.are_missing.are_those at)
        | inr old ↦ absurd (lacks.none_there old.old old.cell old.is_cell old.is_constant)
      ] in
      let head : (constant_head planned.plan value).cell ≡ made.name.ident = ap (λ k. (head_at planned.plan k).cell) number ∙ (head_for names design file valid planned i made there).cell in
      down (number_of planned.plan needed.number) i copy.0 made (added_place is.is_made.instances value) copy.1.is_there there
      (subst (NamesCell copy.0 (added_place is.is_made.instances value)) head (added_instance needed.number copy.0 is value needs)) (copy_reached needed.number inside)

  -- all cells are
  pub all_reached : (i : ℕ) (made : Cell) → slice_get planned.cells i ≡ Some made → is_reached whole i ≡ true
  all_reached i made there = elim (kind_of names design file valid planned i made there) as (λ _. is_reached whole i ≡ true) [
    | inl new ↦ new_reached i made there new.value new.is_value
    | inr copy ↦ subst (λ k. is_reached whole k ≡ true) copy.1.same_number (copy_reached copy.0 (slice_get_within design.cells copy.0 copy.1.is_made.cell copy.1.is_made.is_there))
  ]

  -- so the number of a cell stays
  pub same_number : (i : ℕ) (made : Cell) → slice_get planned.cells i ≡ Some made → get_or (numbers_in_design whole) i 0 ≡ i
  same_number i made there =
      let inside : i < length planned.cells = slice_get_within planned.cells i made there in
      all_counted (reached_marks whole) 0 i (marked_within (reached_marks whole) i (all_reached i made there))
      (λ k h. let at = element_there planned.cells k (omega (arith, h, inside)) in all_reached k at.0 at.1)
      ∙ (let e : 0 + i ≡ i = omega arith in e)

  abbrev value_of : Cell → HCell
  value_of made = cell_value (numbers_in_design whole) (linked_cell whole (place_in 0 made))

  -- each cell of the file is one of the design, under the same number
  pub cell_at : (i : ℕ) (made : Cell) → slice_get planned.cells i ≡ Some made → slice_get (edif_cells whole) i ≡ Some (value_of made)
  cell_at i made there = ap (slice_get (edif_cells whole)) (sym (same_number i made there)) ∙ design_at whole i (place_in 0 made) (place_there i made there) (all_reached i made there)

  place_within : (i : ℕ) (place : CellPlace) → slice_get (all_cells whole) i ≡ Some place → i < length planned.cells
  place_within i place at =
      let inside : i < length (all_cells whole) = slice_get_within (all_cells whole) i place at in
      let long : length (all_cells whole) ≡ length planned.cells = ap length (all_cells_are planned.name planned.design_name planned.cells (head_of planned.plan design.top).cell) ∙ length-map planned.cells (place_in 0) in
      omega (arith, inside, long)

  -- and the design has no others
  pub cell_from : (i : ℕ) → i < length (edif_cells whole) → i < length planned.cells
  cell_from i inside =
      let cell = element_there (edif_cells whole) i inside in
      let from : ComesFrom whole i cell.0 = design_from whole i cell.0 cell.1 in
      let old : from.old < length planned.cells = place_within from.old from.place from.stands in
      let made = element_there planned.cells from.old old in
      let same : from.old ≡ i = sym (same_number from.old made.0 made.1) ∙ from.renumbered in
      omega (arith, old, same)

  pub same_length : length (edif_cells whole) ≡ length planned.cells
  same_length = as_many (length (edif_cells whole)) (length planned.cells) cell_from
      (λ i inside. let made = element_there planned.cells i inside in slice_get_within (edif_cells whole) i (value_of made.0) (cell_at i made.0 made.1))

  pub same_top : edif_top whole ≡ number_of planned.plan design.top
  unfolding edif_top
  same_top = ap (λ o. number_in (numbers_in_design whole) (number_meant o)) is_top ∙ same_number (number_of planned.plan design.top) top_copy.0 top_copy.1.is_there
