-- The refusals of modules that break no rule that needs a table.
use Rattle.std.proofs.Common.{◌≡◌, List, [], ◌∷◌, ◌++◌, append-nil, map, refl, ◌∙◌}
use Rattle.std.specs.List.{AllByRecursion}
use Rattle.nl_base.specs.declared.rule.Rule.{Rule}
use Rattle.nl_base.specs.declared.rule.Rule.TheVariants.{G6, G7, G8, G12, G13, G14, G15}
use Rattle.vlog_design.specs.Rules.{Objects, bad_selects, in_modules, other_ranges, params_twice, refused, too_wide, unequal_widths, unknown_names, unsized}
use Rattle.vlog_values.specs.declared.module.Module.{Module}
use Rattle.vlog_checked.specs.ByTables.{IsFree}
use Rattle.vlog_checked.specs.Groups.{connection_refusals, design_refusals, name_refusals, table_refusals, width_refusals}

module _ (modules : List Module) where
  none_in : (rule : Rule) (objects : Module → Objects) → ((m : Module) → IsFree modules m → objects m ≡ []) → (those : List Module) → AllByRecursion (IsFree modules) those → in_modules rule objects those ≡ []
  none_in rule objects none [] h = refl
  none_in rule objects none (m ∷ those) h = λ j. map (refused rule m.name) (none m h.0 j) ++ none_in rule objects none those h.1 j

  module _ (free : AllByRecursion (IsFree modules) modules) where
    no_names : name_refusals modules ≡ []
    unfolding name_refusals
    no_names = λ j.
        none_in G6 unknown_names (λ m is. is.alone.known_names) modules free j
        ++ none_in G7 bad_selects (λ m is. is.alone.good_selects) modules free j
        ++ none_in G8 (unequal_widths modules) (λ m is. is.equal_widths) modules free j

    params_alone : width_refusals modules ≡ in_modules G14 params_twice modules
    unfolding width_refusals
    params_alone =
        (λ j. none_in G12 too_wide (λ m is. is.alone.narrow) modules free j
        ++ none_in G13 (unsized modules) (λ m is. is.sized) modules free j
        ++ in_modules G14 params_twice modules
        ++ none_in G15 other_ranges (λ m is. is.alone.one_range) modules free j)
        ∙ append-nil (in_modules G14 params_twice modules)

    -- are those on connections, parameters and instances
    pub left_of_free : table_refusals modules ≡ connection_refusals modules ++ in_modules G14 params_twice modules ++ design_refusals modules
    unfolding table_refusals
    left_of_free = λ j. no_names j ++ connection_refusals modules ++ params_alone j ++ design_refusals modules
