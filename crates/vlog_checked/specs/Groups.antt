-- The refusals of a file in the groups in which the rules are tried, each in the order of the rules.
use Rattle.std.specs.Prelude.{◌≡◌, List, [], ◌++◌}
use Rattle.nl_base.specs.declared.rule.Refusal.{Refusal}
use Rattle.nl_base.specs.declared.rule.Rule.TheVariants.{G3, G4, G5, G6, G7, G8, G9, G10, G11, G12, G13, G14, G15, G16, G17}
use Rattle.vlog_design.specs.Names.{Name}
use Rattle.vlog_design.specs.Rules.{bad_selects, declared_twice, in_modules, modules_twice, no_top, other_ranges, params_twice, ports_twice, recursions, too_many_connections, too_wide, unequal_widths, unknown_instances, unknown_modules, unknown_names, unknown_ports, unsized, without_direction}
use Rattle.vlog_values.specs.declared.module.Module.{Module}
use Rattle.vlog_values.specs.declared.module.VlogFile.{VlogFile}

-- by the rules on the names of the modules of a file (G1 and G2)
unfoldable pub file_refusals : VlogFile → Name → List Refusal
file_refusals file top = no_top file top ++ modules_twice file

-- by the rules on modules without their tables, among all modules of the file (G3 to G5)
unfoldable pub module_refusals : List Module → List Module → List Refusal
module_refusals all modules =
    in_modules G3 (unknown_modules all) modules
    ++ in_modules G4 declared_twice modules
    ++ in_modules G5 without_direction modules

-- by the rules on names, selects and the two sides of connections and assignments (G6 to G8)
unfoldable pub name_refusals : List Module → List Refusal
name_refusals modules =
    in_modules G6 unknown_names modules
    ++ in_modules G7 bad_selects modules
    ++ in_modules G8 (unequal_widths modules) modules

-- by the rules on connections (G9 to G11)
unfoldable pub connection_refusals : List Module → List Refusal
connection_refusals modules =
    in_modules G9 (unknown_ports modules) modules
    ++ in_modules G10 ports_twice modules
    ++ in_modules G11 (too_many_connections modules) modules

-- by the rules on widths, unsized literals, parameters and ranges (G12 to G15)
unfoldable pub width_refusals : List Module → List Refusal
width_refusals modules =
    in_modules G12 too_wide modules
    ++ in_modules G13 (unsized modules) modules
    ++ in_modules G14 params_twice modules
    ++ in_modules G15 other_ranges modules

-- by the rules on recursion and on values for parameters of instances (G16 and G17)
unfoldable pub design_refusals : List Module → List Refusal
design_refusals modules =
    in_modules G16 (recursions modules) modules
    ++ in_modules G17 unknown_instances modules

-- no module breaks a rule on connections, on parameters or on values for parameters of instances (G9 to G11, G14 and G17)
pub record BreakNone (modules : List Module) : Type 0 where
  pub connections : connection_refusals modules ≡ []
  pub parameters : in_modules G14 params_twice modules ≡ []
  pub instances : in_modules G17 unknown_instances modules ≡ []

-- by the rules on modules with their tables (G6 to G17)
unfoldable pub table_refusals : List Module → List Refusal
table_refusals modules = name_refusals modules ++ connection_refusals modules ++ width_refusals modules ++ design_refusals modules
