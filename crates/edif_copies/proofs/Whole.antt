-- A planned file is one for its design.
use Rattle.std.proofs.Common.{◌≡◌, ℕ, List, [], None, Some, length, refl, sym, ap, ◌∙◌, subst}
use Rattle.std.specs.Prelude.{slice_get}
use Rattle.edif_values.specs.declared.file.EdifFile.{EdifFile}
use Rattle.edif_design.specs.Design.{edif_cells, edif_properties, edif_top}
use Rattle.edif_design.specs.FileRules.{first_E, recursion_refusals}
use Rattle.edif_resolve.proofs.Fitting.{good_cells}
use Rattle.edif_resolve.proofs.Recursion.{first_of_design, no_recursion_refusals}
use Rattle.edif_copies.specs.Answers.{IsEdifDesign, IsEdifFor}
use Rattle.edif_plans.specs.Planned.{IsPlannedFile}
use Rattle.edif_copies.proofs.Partners.{same_cells}
use Rattle.edif_copies.proofs.Ranking.{none_reaches_itself}
use Rattle.edif_copies.proofs.Reaching.{clean, is_top, start, whole}
use Rattle.net_hier.specs.Constants.{AreConstantNames, ConstantNames}
use Rattle.net_hier.specs.Design.{Design, IsCell}
use Rattle.net_hier.specs.SameDesign.{SameDesign}
use Rattle.net_hier.specs.Valid.{HaveOwnInstances, IsGoodCell, IsValid}
use Rattle.net_hier.specs.declared.cells.HCell.{HCell}
use Rattle.net_hier.proofs.Building.{good_in_range}
use Rattle.net_hier.proofs.Partners.{partner_has_paths, valid_has_paths}
use Rattle.net_hier.proofs.Theorem.{same_design as same_by_cells}

module _ (names : ConstantNames) (design : Design) (file : EdifFile) (valid : IsValid design) (planned : IsPlannedFile names design file) (good : AreConstantNames names) where
  abbrev made : EdifFile
  made = whole names design file valid planned

  -- the design that the file says, in any order
  abbrev said : Design
  said = record { cells = edif_cells made; top = edif_top made; props = edif_properties made; order = [] }

  is_said : IsEdifDesign (whole names design file valid planned) said
  is_said = record { same_cells = refl; same_top = refl; same_props = refl }

  all_good : (number : ℕ) (cell : HCell) → IsCell (edif_cells (whole names design file valid planned)) number cell → IsGoodCell (edif_cells (whole names design file valid planned)) cell
  all_good = good_cells made (clean names design file valid planned) (start names design file valid planned) (is_top names design file valid planned)

  none_closes : recursion_refusals (edif_cells (whole names design file valid planned)) ≡ []
  none_closes = no_recursion_refusals (edif_cells made) (good_in_range (edif_cells made) all_good) (none_reaches_itself names design file valid planned said is_said)

  no_refusal : first_E (whole names design file valid planned) ≡ None
  no_refusal = first_of_design made (clean names design file valid planned) ∙ ap (λ l. slice_get l 0) none_closes

  own_instances : (other : Design) → IsEdifDesign (whole names design file valid planned) other → HaveOwnInstances other.cells
  own_instances other is number cell there = (all_good number cell (ap (λ (cs : List HCell). slice_get cs number) (sym is.same_cells) ∙ there)).instance_names

  same_whole : (other : Design) → IsEdifDesign (whole names design file valid planned) other → SameDesign names design other
  same_whole other is =
      let same = same_cells names design file valid planned other is good in
      same_by_cells names design other (Some (length planned.values)) (valid_has_paths design valid) (partner_has_paths names design other (Some (length planned.values)) valid same (own_instances other is)) same good

  pub planned_is_edif : IsEdifFor names design file
  planned_is_edif = subst (IsEdifFor names design) (sym planned.is_file) (record {
    no_refusal = no_refusal;
    values = planned.values;
    are_missing = planned.are_missing;
    same_cells = λ other is. same_cells names design file valid planned other is good;
    same_design = same_whole;
  })
