-- The plan of the file of a design.
use Rattle.net_hier.specs.Constants.{ConstantNames}
use Rattle.net_hier.specs.Design.{Design}
use Rattle.edif_plans.specs.Plans.{FitsCells}
use Rattle.edif_plans.specs.Missing.{AreMissing}
use Rattle.edif_plans.specs.Planned.{IsPlan}
use Rattle.edif_planning.specs.declared.planning.Planned.{Planned}

-- the constants that are missing, and a plan for new cells of these and for the cells of the design, each of which has a head
pub record IsPlanned (names : ConstantNames) (design : Design) (planned : Planned) : Type 0 where
  pub are_missing : AreMissing names design planned.missing.items
  pub is_plan : IsPlan names design planned.missing.items planned.plan
  pub fits : FitsCells design.cells planned.plan
