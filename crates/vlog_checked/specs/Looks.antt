-- What is known of a file when its rules have been tried.
use Rattle.std.specs.Prelude.{◌≡◌, ◌-◌, ◌^◌, true, [], map, min, sum_by, Some}
use Rattle.std.specs.List.{AllByRecursion}
use Rattle.vlog_design.specs.Names.{Name, implicit_names}
use Rattle.vlog_design.specs.Reach.{module_number, reached}
use Rattle.vlog_design.specs.Rules.{first_G, refusals}
use Rattle.vlog_design.specs.Tables.{modules_of}
use Rattle.vlog_shown.specs.Interfaces.{interface}
use Rattle.vlog_ties.specs.Ties.{module_bits, most_joins}
use Rattle.vlog_values.specs.declared.module.VlogFile.{VlogFile}
use Rattle.vlog_checked.specs.declared.check.CleanModules.{CleanModules}
use Rattle.vlog_checked.specs.declared.check.Checked.{Checked}
use Rattle.vlog_checked.specs.declared.check.Checked.TheVariants.{Refused, Clean}

-- no rule is broken, and these are the reached modules, their names, what they show, the number of the top among them, their bits, and,
-- where it is said, that a declaration declares each of their nets
pub record AreCleanModules (file : VlogFile) (top : Name) (checked : CleanModules) : Type 0 where
  pub no_refusals : refusals file top ≡ []
  pub modules_are : modules_of checked.modules.items ≡ reached file top
  pub names_are : checked.names ≡ map (λ m. m.name) (reached file top)
  pub shown_are : checked.shown ≡ map interface (reached file top)
  pub top_is : checked.top ≡ module_number (reached file top) top
  pub most_is : checked.most ≡ min (2 ^ 64 - 1) (sum_by (most_joins (reached file top)) (reached file top))
  pub bits_is : checked.bits ≡ min (2 ^ 64 - 1) (sum_by module_bits (reached file top))
  pub declared : checked.is_declared ≡ true → AllByRecursion (λ m. implicit_names m ≡ []) (reached file top)

-- the first object of the least rule that is broken, or the reached modules where none is
abbrev pub IsChecked : VlogFile → Name → Checked → Type 0
IsChecked file top (Refused refusal) = first_G file top ≡ Some refusal
IsChecked file top (Clean checked) = AreCleanModules file top checked
