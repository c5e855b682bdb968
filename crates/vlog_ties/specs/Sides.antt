-- What the rules on two sides say of modules.
use Rattle.std.specs.Prelude.{◌≡◌, ◌-◌, ◌^◌, List, Option, find, min, option_map, sum_by}
use Rattle.std.specs.List.{list_any}
use Rattle.nl_base.specs.declared.rule.Refusal.{Refusal}
use Rattle.nl_base.specs.declared.rule.Rule.TheVariants.{G8, G13}
use Rattle.vlog_design.specs.Names.{Signal}
use Rattle.vlog_design.specs.Rules.{first_of, in_modules, refused, unequal_widths, unsized}
use Rattle.vlog_rules.specs.WrongUses.{has_wrong_use}
use Rattle.vlog_values.specs.declared.module.Module.{Module}
use Rattle.vlog_ties.specs.Ties.{Tied, any_pairing, is_broken, most_joins, rule_number, tied_most, tied_names}
use Rattle.vlog_ties.specs.declared.rules.TieRule.{TieRule}
use Rattle.vlog_ties.specs.declared.rules.TieRule.TheVariants.{EqualWidths, SizedLiterals}
use Rattle.vlog_ties.specs.declared.sides.Sides.{Sides}

-- the refusal of the first of these ties of a module that breaks the rule
abbrev pub tie_refusal : TieRule → Module → List Signal → List Tied → Option Refusal
tie_refusal rule m table ties = option_map (λ t. refused (rule_number rule) m.name (tied_names t)) (find (any_pairing (is_broken rule) table) ties)

-- the first of these ties of a module that break the rules on two sides, and the bits of their left sides
pub record AreTieSides (m : Module) (table : List Signal) (ties : List Tied) (sides : Sides) : Type 0 where
  pub unequal_is : sides.unequal ≡ tie_refusal EqualWidths m table ties
  pub loose_is : sides.loose ≡ tie_refusal SizedLiterals m table ties
  pub most_is : sides.most ≡ min (2 ^ 64 - 1) (sum_by (tied_most table) ties)

-- the first objects of those modules, among all modules, that break the rules on two sides, the bits of their left sides, and whether one
-- of their uses of names is wrong
pub record AreSides (modules those : List Module) (sides : Sides) : Type 0 where
  pub unequal_is : sides.unequal ≡ first_of (in_modules G8 (unequal_widths modules) those)
  pub loose_is : sides.loose ≡ first_of (in_modules G13 (unsized modules) those)
  pub most_is : sides.most ≡ min (2 ^ 64 - 1) (sum_by (most_joins modules) those)
  pub wrong_is : sides.wrong ≡ list_any has_wrong_use those
