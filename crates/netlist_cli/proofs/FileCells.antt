-- The cells that a file says are those of a design, where the file breaks no rule: of an EDIF file, and of a Verilog file that is a value.
use Rattle.std.proofs.Common.{◌≡◌, ℕ, ◌+◌, ◌<◌, ◌≤◌, Bool, true, false, List, [], ◌∷◌, ◌++◌, Some, None, refl, sym, ◌∙◌, ap, length, slice_get, arith}
use Rattle.std.proofs.lemmas.Bool.{false≢true}
use Rattle.std.specs.List.{flat_map}
use Rattle.nl_base.specs.declared.rule.Rule.TheVariants.{E13}
use Rattle.edif_design.specs.Design.{edif_cells, edif_top}
use Rattle.edif_design.specs.FileRules.{closing_refusals, first_E, recursion_refusals, refusals}
use Rattle.edif_design.specs.Parts.{numbered}
use Rattle.edif_design_laws.proofs.Clean.{no_refusals}
use Rattle.edif_values.specs.declared.file.EdifFile.{EdifFile}
use Rattle.edif_lookup.proofs.FirstLaws.{first-lowest}
use Rattle.edif_lookup.proofs.Orders.{lowest_none, none_right}
use Rattle.edif_lookup.specs.Refusals.{broken}
use Rattle.edif_resolve.proofs.Clean.{map_get, top_there}
use Rattle.edif_resolve.proofs.Fitting.{all_reached, good_cells, has_top}
use Rattle.edif_resolve.proofs.Recursion.{numbered_get}
use Rattle.net_flatten_answers.specs.Answered.{AreOfDesign}
use Rattle.net_flatten_refusals.proofs.Lists.{each_empty}
use Rattle.net_graph.proofs.MarkLaws.{marked-reachable}
use Rattle.net_graph.proofs.WorkLaws.{has_above, marked_by_reach}
use Rattle.net_graph.specs.Graph.{IsInRange, ReachesItself}
use Rattle.net_graph.specs.Marks.{is_marked, marks_of}
use Rattle.net_hier.proofs.Building.{good_in_range}
use Rattle.net_hier.specs.Design.{below_of, cells_below}
use Rattle.net_hier.specs.declared.cells.HCell.{HCell}
use Rattle.net_hier.specs.declared.cells.HInst.{HInst}
use Rattle.vlog_design.specs.Design.{vlog_design}
use Rattle.vlog_design.specs.Names.{Name}
use Rattle.vlog_design.specs.Reach.{module_number, reached}
use Rattle.vlog_design.specs.Rules as verilog_rules
use Rattle.vlog_elab.proofs.Answering.{fit_for, free_for}
use Rattle.vlog_values.specs.Sizes.{vlog_size}
use Rattle.vlog_values.specs.Values.{IsVlogValue}
use Rattle.vlog_values.specs.declared.module.VlogFile.{VlogFile}

-- ---- EDIF

quiet : (b : Bool) (name : List ℕ) (names : List (List ℕ)) → b ≡ true → broken b E13 name names ≡ [] → ⊥
quiet true name names t e = absurd cc
quiet false name names t e = false≢true t

module _ (cells : List HCell) (in_range : IsInRange (cells_below cells)) (none : recursion_refusals cells ≡ []) where
  -- an instance in a cell that reaches itself closes the way
  closes_nothing : (number place : ℕ) (cell : HCell) (instance : HInst) → slice_get cells number ≡ Some cell → slice_get cell.instances place ≡ Some instance → closing_refusals cells number cell.name instance ≡ []
  closes_nothing number place cell instance is_cell is_there =
      let same : 0 + number ≡ number = omega arith in
      let there : slice_get (numbered cells) number ≡ Some (number, cell) = numbered_get 0 cells number cell is_cell ∙ ap (λ n. Some (n, cell)) same in
      let own = each_empty (λ item. flat_map (closing_refusals cells item.0 item.1.name) item.1.instances) (numbered cells) none number (number, cell) there in
      each_empty (closing_refusals cells number cell.name) cell.instances own place instance is_there

  pub none_reaches_itself : (number : ℕ) → ¬ ReachesItself (cells_below cells) number
  none_reaches_itself number back =
      let (cell, (is_cell, are)) = map_get below_of cells number back.first.numbers back.first.are_below in
      let (instance, (is_there, of)) = map_get (λ (i : HInst). i.cell) cell.instances back.first.place back.below (ap (λ ns. slice_get ns back.first.place) are ∙ back.first.is_there) in
      let within : back.below < length (cells_below cells) = in_range number back.below back.first in
      let marked : is_marked (marks_of (cells_below cells) back.below) number ≡ true =
      marked-reachable (cells_below cells) back.below within (λ outer inner h. in_range outer inner (has_above (cells_below cells) outer inner h)) number (marked_by_reach (cells_below cells) back.below number back.back) in
      quiet (is_marked (marks_of (cells_below cells) instance.cell) number) cell.name (instance.name ∷ []) (ap (λ n. is_marked (marks_of (cells_below cells) n) number) of ∙ marked)
      (closes_nothing number back.first.place cell instance is_cell is_there)

none_closes : (file : EdifFile) → first_E file ≡ None → recursion_refusals (edif_cells file) ≡ []
unfolding first_E
none_closes file h = none_right (refusals file) (recursion_refusals (edif_cells file))
    (lowest_none (refusals file ++ recursion_refusals (edif_cells file)) (sym (first-lowest (refusals file ++ recursion_refusals (edif_cells file))) ∙ h))

pub edif_cells_are : (file : EdifFile) → first_E file ≡ None → AreOfDesign (edif_cells file) (edif_top file)
edif_cells_are file h =
    let clean : refusals file ≡ [] = no_refusals file h in
    let (start, is_top) = top_there file clean in
    let good = good_cells file clean start is_top in
    record {
      has_top = has_top file clean start is_top;
      good_cells = good;
      reached = all_reached file clean start is_top;
      no_recursion = none_reaches_itself (edif_cells file) (good_in_range (edif_cells file) good) (none_closes file h);
    }

-- ---- Verilog

nothing_first : {A : Type 0} (xs : List A) → verilog_rules.first_of xs ≡ None → xs ≡ []
nothing_first [] h = refl
nothing_first (x ∷ xs) h = absurd cc

none_refused : (file : VlogFile) (top : Name) → verilog_rules.first_G file top ≡ None → verilog_rules.refusals file top ≡ []
unfolding verilog_rules.first_G
none_refused file top h = nothing_first (verilog_rules.refusals file top) h

pub verilog_cells_are : (file : VlogFile) (top : Name) → IsVlogValue file → vlog_size file ≤ 268435456 → verilog_rules.first_G file top ≡ None → AreOfDesign (vlog_design file top).cells (vlog_design file top).top
unfolding vlog_design
verilog_cells_are file top value small h =
    let none : verilog_rules.refusals file top ≡ [] = none_refused file top h in
    let fit = fit_for file top value small none (reached file top) refl (module_number (reached file top) top) refl in
    record { has_top = fit.has_top; good_cells = fit.good_cells; reached = fit.reached; no_recursion = free_for file top value small none (reached file top) refl }
