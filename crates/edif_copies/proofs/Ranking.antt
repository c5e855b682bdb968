-- No cell of a planned file reaches itself.
use Rattle.std.proofs.Common.{arith, ◌≡◌, inl, inr, ℕ, suc, ◌+◌, ◌<◌, ◌≤◌, Bool, List, [], ◌∷◌, Some, get_or, length, map, refl, sym, ap, ◌∙◌, subst}
use Rattle.std.specs.Prelude.{option_map, slice_get}
use Rattle.std.proofs.lemmas.Option.{slice_get-map, slice_get_within}
use Rattle.edif_values.specs.declared.file.EdifFile.{EdifFile}
use Rattle.edif_plans.specs.Plans.{number_of}
use Rattle.edif_plans.proofs.Lists.{at_get}
use Rattle.edif_copies.specs.Answers.{IsEdifDesign}
use Rattle.edif_plans.specs.Planned.{IsPlannedFile}
use Rattle.edif_copies.proofs.Partners.{first_counterpart, made_at, same_copy}
use Rattle.edif_copies.proofs.Placing.{all_below, kind_of}
use Rattle.edif_copies.proofs.Reaching.{whole}
use Rattle.net_graph.specs.Graph.{IsAbove, ReachesItself}
use Rattle.net_graph.proofs.ListLaws.{element_there, same_element}
use Rattle.net_hier.specs.Cells.{IsConstantCell}
use Rattle.net_hier.specs.Constants.{ConstantNames}
use Rattle.net_hier.specs.Design.{Design, IsCell, below_of, cells_below}
use Rattle.net_hier.specs.SameCells.{IsPartner, SameCell}
use Rattle.net_hier.specs.Valid.{IsValid}
use Rattle.net_hier.specs.declared.cells.HCell.{HCell}
use Rattle.net_hier.specs.declared.cells.HInst.{HInst}
use Rattle.net_hier.proofs.Building.{instance_of, list_of}
use Rattle.net_hier.proofs.Pairs.{lt_or_le, no_element}
use Rattle.net_stars.proofs.Ranks.{no_recursion}

-- the rank of a number with these below it: 0, where there are none, else the number that follows it
abbrev rank_with : List ℕ → ℕ → ℕ
rank_with [] number = 0
rank_with (below ∷ rest) number = suc number

abbrev rank : List (List ℕ) → ℕ → ℕ
rank graph number = rank_with (get_or graph number []) number

not_high : (below : List ℕ) (number : ℕ) → rank_with below number ≤ suc number
not_high [] number = omega arith
not_high (inner ∷ rest) number = omega arith

high : (below : List ℕ) (number i inner : ℕ) → slice_get below i ≡ Some inner → rank_with below number ≡ suc number
high [] number i inner there = absurd cc
high (first ∷ rest) number i inner there = refl

module _ (names : ConstantNames) (design : Design) (file : EdifFile) (valid : IsValid design) (planned : IsPlannedFile names design file) (other : Design) (is : IsEdifDesign (whole names design file valid planned) other) where
  abbrev graph : List (List ℕ)
  graph = cells_below other.cells

  below_is : (number : ℕ) (cell : HCell) → IsCell other.cells number cell → get_or (cells_below other.cells) number [] ≡ below_of cell
  below_is number cell there = at_get (cells_below other.cells) number (below_of cell) [] (slice_get-map below_of other.cells number ∙ ap (option_map below_of) there)

  -- a cell of a constant has the rank 0
  constant_low : (value : Bool) (number : ℕ) (cell : HCell) → IsCell other.cells number cell → IsConstantCell names value cell → rank (cells_below other.cells) number ≡ 0
  constant_low value number cell there constant =
      ap (λ l. rank_with l number) (below_is number cell there ∙ ap (map (λ (x : HInst). x.cell)) constant.is_leaf.no_instances)

  outer_high : (outer inner : ℕ) → IsAbove (cells_below other.cells) outer inner → rank (cells_below other.cells) outer ≡ suc outer
  outer_high outer inner above =
      ap (λ l. rank_with l outer) (at_get (cells_below other.cells) outer above.numbers [] above.are_below) ∙ high above.numbers outer above.place inner above.is_there

  -- an instance of a partner is of a cell of lesser rank
  instance_falls : (number outer : ℕ) (cell partner : HCell) (place : ℕ) → slice_get design.order place ≡ Some number → outer ≡ length planned.values + place → IsCell design.cells number cell
      → SameCell names design other (Some (length planned.values)) number outer cell partner → (i : ℕ) (counterpart : HInst) → slice_get partner.instances i ≡ Some counterpart → rank (cells_below other.cells) counterpart.cell < suc outer
  instance_falls number outer cell partner place placed at there same i counterpart counterpart_there = elim (lt_or_le i (length cell.instances)) as (λ _. rank (cells_below other.cells) counterpart.cell < suc outer) [
    | inl own ↦
        let instance = element_there cell.instances i own in
        let found = same.same_instances i instance.0 instance.1 in
        let is_counterpart : found.0 ≡ counterpart = same_element partner.instances i found.0 counterpart found.1 counterpart_there in
        let inner : IsPartner design (Some (length planned.values)) instance.0.cell counterpart.cell = subst (λ (t : HInst). IsPartner design (Some (length planned.values)) instance.0.cell t.cell) is_counterpart found.2.same_cell in
        let before = all_below names design file valid planned place number (below_of cell) i instance.0.cell placed
        (slice_get-map below_of design.cells number ∙ ap (option_map below_of) there) (slice_get-map (λ (x : HInst). x.cell) cell.instances i ∙ ap (option_map (λ (x : HInst). x.cell)) instance.1) in
        let p : number_of planned.plan instance.0.cell ≡ length planned.values + before.0 = planned.is_plan.numbers before.0 instance.0.cell before.2 in
        let q : number_of planned.plan instance.0.cell ≡ length planned.values + inner.0 = planned.is_plan.numbers inner.0 instance.0.cell inner.1 in
        let r : counterpart.cell ≡ length planned.values + inner.0 = inner.2 in
        let lt : before.0 < place = before.1 in
        let low : rank (cells_below other.cells) counterpart.cell ≤ suc counterpart.cell = not_high (get_or (cells_below other.cells) counterpart.cell []) counterpart.cell in
        omega (arith, p, q, r, lt, low, at)
    | inr added ↦
        let value = same.added_alone i added (slice_get_within partner.instances i counterpart counterpart_there) in
        let constant = (same.added_after value.0 i value.1).1 in
        let is_counterpart : constant.the_instance ≡ counterpart = same_element partner.instances i constant.the_instance counterpart constant.is_there counterpart_there in
        let low : rank (cells_below other.cells) counterpart.cell ≡ 0 = subst (λ (t : HInst). rank (cells_below other.cells) t.cell ≡ 0) is_counterpart (constant_low value.0 constant.the_instance.cell constant.below constant.is_below constant.is_constant) in
        omega (arith, low)
  ]

  falls : (outer inner : ℕ) → IsAbove (cells_below other.cells) outer inner → rank (cells_below other.cells) inner < rank (cells_below other.cells) outer
  falls outer inner above =
      let list = list_of other.cells outer above.numbers above.are_below in
      let at = instance_of list.cell above.place inner (ap (λ l. slice_get l above.place) list.are_below ∙ above.is_there) in
      let made = made_at names design file valid planned other is outer list.cell list.is_cell in
      let low : rank (cells_below other.cells) inner < suc outer = subst (λ m. rank (cells_below other.cells) m < suc outer) at.is_of
      (elim (kind_of names design file valid planned outer made.0 made.1) as (λ _. rank (cells_below other.cells) at.instance.cell < suc outer) [
        | inl new ↦
            let first = first_counterpart names design file valid planned other is outer list.cell (slice_get_within planned.values outer new.value new.is_value) list.is_cell in
            absurd (no_element list.cell.instances above.place at.instance first.2.is_leaf.no_instances at.is_there)
        | inr copy ↦
            let c = copy.1 in
            instance_falls copy.0 outer c.is_made.cell list.cell c.place c.is_placed (sym c.same_number ∙ c.is_number) c.is_made.is_there
            (subst (SameCell names design other (Some (length planned.values)) copy.0 outer c.is_made.cell) made.2 (same_copy names design file valid planned other is copy.0 outer made.0 c)) above.place at.instance at.is_there
      ]) in
      let top : rank (cells_below other.cells) outer ≡ suc outer = outer_high outer inner above in
      omega (arith, low, top)

  pub none_reaches_itself : (number : ℕ) → ¬ ReachesItself (cells_below other.cells) number
  none_reaches_itself = no_recursion (cells_below other.cells) (rank (cells_below other.cells)) falls
