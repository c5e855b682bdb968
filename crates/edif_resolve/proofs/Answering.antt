-- From the design of cells to the design of a file.
use Rattle.std.proofs.Common.{◌≡◌, ℕ, ◌∷◌, Option, Result, Ok, Err, ◌<◌, ◌≤◌, List, [], length, get_or, ap, ◌∙◌, sym, subst, slice_get, Some, None, arith}
use Rattle.std.specs.Prelude.{MatchResult}
use Rattle.std.proofs.lemmas.List.{length-map}
use Rattle.std.proofs.lemmas.Option.{slice_get-get_or, slice_get_within}
use Rattle.net_graph.specs.Graph.{IsClosing, IsFirstRecursion, ReachesItself}
use Rattle.net_graph.proofs.MarkLaws.{length_marks}
use Rattle.net_hier.specs.Build.{IsBuilt, IsTooBig}
use Rattle.net_hier.specs.Design.{Design, below_of, cells_below}
use Rattle.net_hier.specs.Units.{units}
use Rattle.net_hier.specs.Valid.{CellsFit}
use Rattle.net_hier.specs.declared.cells.HCell.{HCell}
use Rattle.net_hier.specs.declared.cells.HInst.{HInst}
use Rattle.net_hier.specs.declared.cells.HProp.{HProp}
use Rattle.net_hier.proofs.Building.{good_in_range}
use Rattle.nl_base.specs.declared.rule.Rule.TheVariants.{E13}
use Rattle.edif_values.specs.Sizes.{edif_size}
use Rattle.edif_values.specs.declared.file.EdifFile.{EdifFile}
use Rattle.edif_design.specs.Design.{edif_cells, edif_properties, edif_top}
use Rattle.edif_design.specs.FileRules.{first_E, recursion_refusals, refusals}
use Rattle.edif_design.specs.Reach.{cells_below as file_below, marks_below, reached_marks, those_meant}
use Rattle.edif_design.specs.References.{CellPlace, all_cells, numbers_meant, top}
use Rattle.edif_resolve.specs.Answers.{IsDesignFrom, IsDesignOf, IsFaultFrom, IsFaultOf, IsTooBigFrom}
use Rattle.edif_resolve.specs.declared.answer.ResolveError.{ResolveError}
use Rattle.edif_resolve.specs.declared.answer.ResolveError.TheVariants.{Refused, TooBig, NoMemory}
use Rattle.edif_resolve.proofs.Clean.{map_get}
use Rattle.edif_resolve.proofs.FewParts.{cells_few}
use Rattle.edif_resolve.proofs.Recursion.{first_of_design, first_recursion_refusal, no_recursion_refusals}

-- the closing instance of a cell stands in it
module _ (cells : List HCell) (number place : ℕ) (closing : IsClosing (cells_below cells) number place) where
  outer_there : (cell : HCell) × ((slice_get cells number ≡ Some cell) × (below_of cell ≡ closing.numbers))
  outer_there = map_get below_of cells number closing.numbers closing.are_below

  pub outer_within : number < length cells
  outer_within = slice_get_within cells number outer_there.0 outer_there.1.0

  pub outer_is : (cell : HCell) → cell ≡ get_or cells number cell → slice_get cells number ≡ Some cell
  outer_is cell is = slice_get-get_or cells number cell outer_within ∙ ap Some (sym is)

  pub inner_within : (cell : HCell) → cell ≡ get_or cells number cell → place < length cell.instances
  inner_within cell is =
      let same : outer_there.0 ≡ cell = let a : slice_get cells number ≡ Some outer_there.0 = outer_there.1.0 in let b : slice_get cells number ≡ Some cell = outer_is cell is in cc in
      let are : below_of cell ≡ closing.numbers = ap below_of (sym same) ∙ outer_there.1.1 in
      let found = map_get (λ u. u.cell) cell.instances place closing.inner (ap (λ ns. slice_get ns place) are ∙ closing.is_there) in
      slice_get_within cell.instances place found.0 found.1.0

-- E13 of the first cell that reaches itself
pub recursion_answered : (cells : List HCell) → (x : ℕ) × CellsFit cells x → (n i : ℕ) → IsFirstRecursion (cells_below cells) n i
    → (cell : HCell) → cell ≡ get_or cells n cell → (items : List HInst) → items ≡ cell.instances → (inner : HInst) → inner ≡ get_or items i inner
    → slice_get (recursion_refusals cells) 0 ≡ Some (record { rule = E13; cell = cell.name; names = inner.name ∷ [] })
recursion_answered cells fit n i first cell is items are inner there =
    first_recursion_refusal cells (good_in_range cells fit.1.good_cells) n i first cell inner
    (outer_is cells n i first.closing cell is)
    (ap (λ those. slice_get those i) (sym are)
    ∙ (slice_get-get_or items i inner (subst (λ those. i < length those) (sym are) (inner_within cells n i first.closing cell is)) ∙ ap Some (sym there)))

pub too_big_answered : (cells : List HCell) → (x : ℕ) × CellsFit cells x → (count : ℕ) → IsTooBig cells count → IsTooBigFrom cells count
too_big_answered cells fit count big = record {
  no_recursion = no_recursion_refusals cells (good_in_range cells fit.1.good_cells) big.no_recursion;
  is_count = big.is_count;
  passes = big.passes;
}

-- the design that was built is of the cells
pub built_answered : (cells : List HCell) (top : ℕ) (props : List HProp) (design : Design) → CellsFit cells top → IsBuilt cells top props design → IsDesignFrom cells top props design
built_answered cells top props design fit built = record {
  no_recursion = no_recursion_refusals cells (good_in_range cells fit.good_cells) (subst (λ those. (number : ℕ) → ¬ ReachesItself (cells_below those) number) built.same_cells built.is_hier.valid.no_recursion);
  same_cells = built.same_cells;
  same_top = built.same_top;
  same_props = built.same_props;
  is_hier = built.is_hier;
}

-- a file has no more marks than items
pub marks_few : (file : EdifFile) (m : ℕ) → edif_size file ≤ m → length (reached_marks file) ≤ m
unfolding reached_marks
marks_few file m h = by (top file)
  where
    by : (o : Option (ℕ × CellPlace)) → length (marks_below file o) ≤ m
    by None = omega arith
    by (Some place) =
        let a : length (marks_below file (Some place)) ≡ length (file_below file) = length_marks (file_below file) place.0 in
        let b : length (file_below file) ≡ length (all_cells file) = length-map (all_cells file) (λ place. those_meant (numbers_meant file place)) in
        let d : length (all_cells file) ≤ m = cells_few file m h in
        omega (arith, a, b, d)

module _ (file : EdifFile) (clean : refusals file ≡ []) (cells : List HCell) (are : cells ≡ edif_cells file) where
  first_none : recursion_refusals cells ≡ [] → first_E file ≡ None
  first_none e = first_of_design file clean ∙ ap (λ refusals. slice_get refusals 0) (ap recursion_refusals (sym are) ∙ e)

  design_answered : (number : ℕ) (props : List HProp) (design : Design) → number ≡ edif_top file → props ≡ edif_properties file → IsDesignFrom cells number props design → IsDesignOf file design
  design_answered number props design is_top is_props from = record {
    no_refusal = first_none from.no_recursion;
    same_cells = from.same_cells ∙ are;
    same_top = from.same_top ∙ is_top;
    same_props = from.same_props ∙ is_props;
    is_hier = from.is_hier;
  }

  pub fault_answered : (fault : ResolveError) → IsFaultFrom cells fault → IsFaultOf file fault
  fault_answered (Refused refusal) h = first_of_design file clean ∙ (ap (λ those. slice_get (recursion_refusals those) 0) (sym are) ∙ h)
  fault_answered (TooBig count) h = record { no_refusal = first_none h.no_recursion; is_count = h.is_count ∙ ap units are; passes = h.passes }
  fault_answered NoMemory h = h

  pub answered : (number : ℕ) (props : List HProp) (result : Result Design ResolveError) → number ≡ edif_top file → props ≡ edif_properties file
      → MatchResult result (IsDesignFrom cells number props) (IsFaultFrom cells) → MatchResult result (IsDesignOf file) (IsFaultOf file)
  answered number props (Ok design) is_top is_props h = design_answered number props design is_top is_props h
  answered number props (Err fault) is_top is_props h = fault_answered fault h
