-- A generated file breaks no rule, and its design is within the limits.
use Rattle.std.proofs.Common.{arith, ◌≡◌, ℕ, ◌-◌, ◌<◌, ◌≤◌, ◌^◌, Bool, ◌++◌, ap, ◌∙◌}
use Rattle.std.specs.Prelude.{None}
use Rattle.edif_lookup.specs.Refusals.{first_refusal}
use Rattle.edif_design.specs.Design.{edif_cells, edif_design}
use Rattle.edif_design.specs.FileRules.{first_E, recursion_refusals}
use Rattle.net_hier.specs.Units.{units}
use Rattle.net_hier.specs.Valid.{unit_limit}
use Rattle.to_verilog_rules.specs.Rules.{first_V}
use Rattle.vlog_design.specs.Names.{Name}
use Rattle.vectors.specs.Files.{generated}
use Rattle.vectors_laws.specs.Designs.{design_cells}
use Rattle.vectors_laws.proofs.Clean.{file_clean}
use Rattle.vectors_laws.proofs.Designs.{cells_are, no_properties, top_number}
use Rattle.vectors_laws.proofs.Recursion.{no_recursion}
use Rattle.vectors_laws.proofs.Target.{first_none, units_are_few}

module _ (seed count : ℕ) (some : 0 < count) (small : count ≤ 2 ^ 64) where
  pub none_broken : first_E (generated seed count) ≡ None
  unfolding first_E
  none_broken = λ j. first_refusal (file_clean seed count small some j ++ (ap recursion_refusals (cells_are seed count small some) ∙ no_recursion seed count) j)

  pub no_target_rule : (is_param : Name → Bool) → first_V (edif_design (generated seed count)).cells (edif_design (generated seed count)).top (edif_design (generated seed count)).props is_param ≡ None
  no_target_rule is_param =
      (λ j. first_V (cells_are seed count small some j) (top_number seed count small some j) (no_properties seed count small some j) is_param) ∙ first_none seed count (count - 1) is_param small

pub design_fits : (seed count : ℕ) → 0 < count → count ≤ 3000000 → units (edif_design (generated seed count)).cells ≤ unit_limit
design_fits seed count some few =
    let same : units (edif_cells (generated seed count)) ≡ units (design_cells seed count) = ap units (cells_are seed count (omega (arith, few)) some) in
    let le = units_are_few seed count in
    omega (arith, same, le, few)
