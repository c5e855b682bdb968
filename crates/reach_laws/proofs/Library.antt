-- The marks of the cells of an EDIF file.
use Rattle.std.proofs.Common.{◌≡◌, ℕ, ◌<◌, true, length, Option, Some, None, refl, sym, ap, subst, ◌∙◌}
use Rattle.std.specs.Prelude.{◌↔◌}
use Rattle.net_graph.specs.Graph.{IsReached}
use Rattle.net_graph.specs.Marks.{is_marked}
use Rattle.edif_values.specs.declared.file.EdifFile.{EdifFile}
use Rattle.edif_design.specs.References.{CellPlace, number_meant, top}
use Rattle.edif_design.specs.Reach.{cells_below, is_reached, marks_below, reached_marks}
use Rattle.edif_resolve.proofs.Numbers.{below_in_range, top_within}
use Rattle.reach_laws.specs.Cells.{IsReachedFromTop}
use Rattle.reach_laws.proofs.Marking.{marks_reach}

module _ (file : EdifFile) (number : ℕ) where
  by_top : (o : Option (ℕ × CellPlace)) → top file ≡ o → (is_marked (marks_below file o) number ≡ true) ↔ IsReachedFromTop file number
  by_top None e = (λ h. absurd cc, λ h. let other : None ≡ Some h.0 = sym e ∙ h.1 in absurd cc)
  by_top (Some place) e =
      let is = marks_reach (cells_below file) place.0 number (below_in_range file) in
      let within : place.0 < length (cells_below file) = top_within file place.0 (sym (ap number_meant e)) in
      (λ h. (place, e, (is.0 h).1), λ h. is.1 (within, let same : Some place ≡ Some h.0 = sym e ∙ h.1 in let start : place ≡ h.0 = cc in subst (λ (z : ℕ × CellPlace). IsReached (cells_below file) z.0 number) (sym start) h.2))

  pub reached_cells : (is_reached file number ≡ true) ↔ IsReachedFromTop file number
  unfolding reached_marks
  reached_cells = by_top (top file) refl
