-- Cells have a design, and a design within the flat limit is flattened or refused.
use Rattle.std.proofs.Common.{◌≡◌, ℕ, suc, List, [], ◌∷◌, Option, Some, None, refl, length, length-append, map, arith}
use Rattle.std.proofs.lemmas.List.{length-map}
use Rattle.flat_classes.specs.FlatSums.{IsFewFlat}
use Rattle.net_flatten.proofs.Whole.{nothing_first}
use Rattle.net_flatten_answers.proofs.Classes.{HasClasses, classes_there}
use Rattle.net_flatten_answers.proofs.Orders.{postorder_there}
use Rattle.net_flatten_answers.specs.Answered.{AreOfDesign, IsAnswered, flattened, refused}
use Rattle.net_flatten_one.specs.Parts.{HasParts}
use Rattle.net_flatten_rules.specs.FlatDesign.{cell_or_none, stub, flat_cells, flat_top, inner, leaf_cells}
use Rattle.net_flatten_rules.specs.Rules.{first_of, refusals}
use Rattle.net_flatten_rules.specs.declared.refusal.Broken.{Broken}
use Rattle.net_hier.proofs.Building.{good_in_range}
use Rattle.net_hier.specs.Constants.{ConstantNames}
use Rattle.net_hier.specs.Design.{Design, below_of, cells_below}
use Rattle.net_hier.specs.Valid.{IsValid}
use Rattle.net_hier.specs.declared.cells.HCell.{HCell}
use Rattle.net_hier.specs.declared.cells.HProp.{HProp}

pub design_there : (cells : List HCell) (top : ℕ) (props : List HProp) → AreOfDesign cells top → (design : Design) × HasParts cells top props design × IsValid design
design_there cells top props are =
    let many = length-map cells below_of in
    let lt = are.has_top in
    let (order, is) = postorder_there (cells_below cells) (good_in_range cells are.good_cells) are.no_recursion top (omega (arith, many, lt)) in (
      record { cells = cells; top = top; props = props; order = order },
      record { same_cells = refl; same_top = refl; same_props = refl },
      record { has_top = are.has_top; good_cells = are.good_cells; reached = are.reached; no_recursion = are.no_recursion; postorder = is },
    )

module _ (names : ConstantNames) (design : Design) (few : IsFewFlat design) (has : HasClasses names design) where
  abbrev stubs : List HCell
  stubs = map (λ number. stub (cell_or_none design.cells number)) (leaf_cells design.order has.flat.spots (inner has.flat.leaves))

  -- the flattened design, whose order nothing asks for
  abbrev flat_design : Design
  flat_design = record { cells = flat_cells design has.paths has.flat; top = length stubs; props = design.props; order = [] }

  last : suc (length stubs) ≡ length (flat_cells design has.paths has.flat)
  last = let a = length-append stubs (flat_top design has.paths has.flat ∷ []) in omega (arith, a)

  answered_by : (found : Option Broken) → first_of (refusals design has.paths has.flat) ≡ found → IsAnswered names design
  answered_by None e = flattened flat_design (record {
    few = few;
    is_flattened = record { flat = has.flat; are_classes = has.are_classes; paths = has.paths; are_paths = has.are_paths; same_cells = refl; top_is_last = last; same_props = refl };
    no_refusals = nothing_first (refusals design has.paths has.flat) e;
  })
  answered_by (Some broken) e = refused broken.rule broken.cell broken.names (record { few = few; flat = has.flat; are_classes = has.are_classes; paths = has.paths; are_paths = has.are_paths; is_first = e })

  pub answered_of : IsAnswered names design
  answered_of = answered_by (first_of (refusals design has.paths has.flat)) refl

pub answered_there : (names : ConstantNames) (design : Design) → IsValid design → IsFewFlat design → ¬ ¬ IsAnswered names design
answered_there names design valid few never = classes_there names design valid few (λ has. never (answered_of names design few has))
