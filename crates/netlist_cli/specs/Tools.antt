-- The rules of tools on designs, beside those of the languages.
use Rattle.std.specs.Prelude.{◌≡◌, ℕ, List, codes}
use Rattle.net_flatten.specs.Flattening.{IsFirstRefusal as IsFirstOfFlat, IsFlattening}
use Rattle.net_flatten_one.specs.Parts.{HasParts}
use Rattle.net_flatten_rules.specs.declared.refusal.FlattenRule.{FlattenRule}
use Rattle.net_flatten_rules.specs.declared.refusal.FlattenRule.TheVariants.{F1, F2}
use Rattle.net_hier.specs.Constants.{ConstantNames}
use Rattle.net_hier.specs.Design.{Design}
use Rattle.net_hier.specs.Valid.{IsValid}
use Rattle.net_hier.specs.declared.cells.HCell.{HCell}
use Rattle.net_hier.specs.declared.cells.HProp.{HProp}
use Rattle.to_spice_rules.specs.Answers.{IsFirstRefusal}
use Rattle.to_spice_rules.specs.declared.refusal.SpiceRefusal.{SpiceRefusal}
use Rattle.to_spice_rules.specs.declared.refusal.SpiceRule.{SpiceRule}
use Rattle.to_spice_rules.specs.declared.refusal.SpiceRule.TheVariants.{S1, S2, S3, S4, S5, S6}
use Rattle.netlist_cli.specs.declared.tools.ToolRefusal.{ToolRefusal}
use Rattle.netlist_cli.specs.declared.tools.ToolRule.{ToolRule}
use Rattle.netlist_cli.specs.declared.tools.ToolRule.TheVariants.{Flatten, Spice}

-- the name that is printed for a rule of SPICE
abbrev pub spice_rule_name : SpiceRule → List ℕ
spice_rule_name S1 = codes "S1"
spice_rule_name S2 = codes "S2"
spice_rule_name S3 = codes "S3"
spice_rule_name S4 = codes "S4"
spice_rule_name S5 = codes "S5"
spice_rule_name S6 = codes "S6"

-- the name that is printed for a rule of flattened designs
abbrev pub flatten_rule_name : FlattenRule → List ℕ
flatten_rule_name F1 = codes "F1"
flatten_rule_name F2 = codes "F2"

-- the name that is printed for a rule of a tool
abbrev pub tool_rule_name : ToolRule → List ℕ
tool_rule_name (Spice rule) = spice_rule_name rule
tool_rule_name (Flatten rule) = flatten_rule_name rule

-- a refusal by a rule of SPICE
abbrev pub spice_refusal : SpiceRefusal → ToolRefusal
spice_refusal refusal = record { rule = Spice refusal.rule; cell = refusal.cell; names = refusal.names }

-- it tells the first object of the lowest rule of SPICE that the design breaks
pub record BreaksSpice (cells : List HCell) (refusal : ToolRefusal) : Type 0 where
  pub first : SpiceRefusal
  pub is_first : IsFirstRefusal cells first
  pub is_refusal : refusal ≡ spice_refusal first

-- a refusal by a rule of flattened designs
abbrev pub flatten_refusal : FlattenRule → List ℕ → List (List ℕ) → ToolRefusal
flatten_refusal rule cell names = record { rule = Flatten rule; cell = cell; names = names }

-- it tells the first object of the lowest rule that the flattened design of a design of these parts breaks, where these cells stand for the constants
pub record BreaksFlatten (names : ConstantNames) (cells : List HCell) (top : ℕ) (props : List HProp) (refusal : ToolRefusal) : Type 0 where
  pub design : Design
  pub parts : HasParts cells top props design
  pub valid : IsValid design
  pub rule : FlattenRule
  pub cell : List ℕ
  pub words : List (List ℕ)
  pub is_first : IsFirstOfFlat names design rule cell words
  pub is_refusal : refusal ≡ flatten_refusal rule cell words

-- a design of these parts is flattened to this one, where these cells stand for the constants, and breaks no rule
pub record Flattens (names : ConstantNames) (cells : List HCell) (top : ℕ) (props : List HProp) (flat : Design) : Type 0 where
  pub design : Design
  pub parts : HasParts cells top props design
  pub valid : IsValid design
  pub flattens : IsFlattening names design flat
