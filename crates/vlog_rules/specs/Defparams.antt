-- Items that give values for parameters of instances.
use Rattle.std.specs.Prelude.{Bool, true, false}
use Rattle.vlog_values.specs.declared.module.ItemV.{ItemV}
use Rattle.vlog_values.specs.declared.module.ItemV.TheVariants.{Port, Net, Param, Assign, Instances, Defparam}

abbrev pub is_defparam : ItemV → Bool
is_defparam (Defparam statement) = true
is_defparam (Port decl) = false
is_defparam (Net decl) = false
is_defparam (Param decl) = false
is_defparam (Assign statement) = false
is_defparam (Instances statement) = false
