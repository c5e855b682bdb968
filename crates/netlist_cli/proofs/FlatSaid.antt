-- Of each file something is said by a command that flattens: it cannot be that the design is within the flat limit and is neither flattened nor
-- refused.
use Rattle.std.proofs.Common.{◌≡◌, ℕ, ◌≤◌, Bool, true, false, cond, List, Option, Some, None, refl, sym, ap, subst₂}
use Rattle.std.specs.Prelude.{nat_lt}
use Rattle.std.proofs.lemmas.Bool.{ltb-false}
use Rattle.nl_base.specs.declared.rule.Refusal.{Refusal}
use Rattle.edif_design.specs.Design.{edif_design}
use Rattle.edif_design.specs.FileRules.{first_E}
use Rattle.edif_values.specs.declared.file.EdifFile.{EdifFile}
use Rattle.flat_classes.specs.FlatSums.{flat_count, flat_limit}
use Rattle.net_flatten_answers.proofs.Whole.{answered_there, design_there}
use Rattle.net_flatten_answers.specs.Answered.{AreOfDesign, IsAnswered, flattened, refused}
use Rattle.net_flatten_one.specs.Parts.{HasParts}
use Rattle.net_hier.specs.Constants.{ConstantNames}
use Rattle.net_hier.specs.Design.{Design}
use Rattle.net_hier.specs.Units.{units}
use Rattle.net_hier.specs.Valid.{IsValid}
use Rattle.net_hier.specs.declared.cells.HCell.{HCell}
use Rattle.net_hier.specs.declared.cells.HProp.{HProp}
use Rattle.vlog_design.specs.Design.{vlog_design}
use Rattle.vlog_design.specs.Names.{Name}
use Rattle.vlog_design.specs.Rules.{first_G}
use Rattle.vlog_values.specs.Sizes.{vlog_size}
use Rattle.vlog_values.specs.Values.{IsVlogValue}
use Rattle.vlog_values.specs.declared.module.VlogFile.{VlogFile}
use Rattle.netlist_cli.specs.Meanings.{Judgement, SaysFlattened, SaysOfEdif, SaysOfVerilog, edif_first, flat_rules, verilog_first}
use Rattle.netlist_cli.specs.Outcomes.{SaidThen, Verdict, breaks, breaks_of_tool, exceeds_flat, fine, or_refused, said_first}
use Rattle.netlist_cli.specs.Tools.{Flattens, flatten_refusal}
use Rattle.netlist_cli.proofs.FileCells.{edif_cells_are, verilog_cells_are}

none_broken : (found : Option Refusal) (count : ℕ) → said_first found count ≡ None → found ≡ None
none_broken None count h = refl
none_broken (Some r) count h = absurd cc

-- what is said of a design by rules of which a function finds the first refusal
module _ (names : ConstantNames) (found : List HCell → ℕ → List HProp → Option Refusal) where
  abbrev by_rules : Judgement
  by_rules cells top props verdict = or_refused (found cells top props) fine ≡ verdict

  module _ (cells : List HCell) (top : ℕ) (props : List HProp) where
    abbrev Said : Type 0
    Said = (verdict : Verdict) × SaysFlattened names by_rules cells top props verdict

    of_flat : (flat : Design) → Flattens names cells top props flat → (first : Option Refusal) → found flat.cells flat.top flat.props ≡ first → Said
    of_flat flat is None e = (fine, record { flat = flat; flattens = is; is_said = ap (λ o. or_refused o fine) e })
    of_flat flat is (Some r) e = (breaks r, record { flat = flat; flattens = is; is_said = ap (λ o. or_refused o fine) e })

    of_answer : (design : Design) → HasParts cells top props design → IsValid design → IsAnswered names design → Said
    of_answer design parts valid (flattened flat is) = of_flat flat (record { design = design; parts = parts; valid = valid; flattens = is }) (found flat.cells flat.top flat.props) refl
    of_answer design parts valid (refused rule cell words is) = (
      breaks_of_tool (flatten_refusal rule cell words),
      record { design = design; parts = parts; valid = valid; rule = rule; cell = cell; words = words; is_first = is; is_refusal = refl },
    )

    of_few : AreOfDesign cells top → flat_count cells top ≤ flat_limit → ¬ ¬ Said
    of_few are few never =
        let (design, parts, valid) = design_there cells top props are in
        answered_there names design valid (subst₂ (λ cs t. flat_count cs t ≤ flat_limit) (sym parts.same_cells) (sym parts.same_top) few) (λ answer. never (of_answer design parts valid answer))

    of_count : AreOfDesign cells top → (count : ℕ) → flat_count cells top ≡ count → (b : Bool) → nat_lt flat_limit count ≡ b
        → ¬ ¬ ((verdict : Verdict) × SaidThen (cond b (Some (exceeds_flat count)) None) (SaysFlattened names by_rules cells top props) verdict)
    of_count are count is true e never = never (exceeds_flat count, refl)
    of_count are count is false e never = of_few are (subst₂ (λ m n. m ≤ n) (sym is) refl (ltb-false flat_limit count e)) never

    of_cells : AreOfDesign cells top → ¬ ¬ ((verdict : Verdict) × flat_rules names by_rules cells top props verdict)
    of_cells are = of_count are (flat_count cells top) refl (nat_lt flat_limit (flat_count cells top)) refl

  -- of an EDIF file
  pub edif_said : (file : EdifFile) → ¬ ¬ ((verdict : Verdict) × SaysOfEdif (flat_rules names by_rules) file verdict)
  edif_said file = by (edif_first file) refl
    where
      by : (first : Option Verdict) → edif_first file ≡ first → ¬ ¬ ((verdict : Verdict) × SaidThen first (flat_rules names by_rules (edif_design file).cells (edif_design file).top (edif_design file).props) verdict)
      by (Some said) e never = never (said, refl)
      by None e never = of_cells (edif_design file).cells (edif_design file).top (edif_design file).props (edif_cells_are file (none_broken (first_E file) (units (edif_design file).cells) e)) never

  -- of a Verilog file that is a value, under the module of this name
  pub verilog_said : (top : Name) (file : VlogFile) → IsVlogValue file → vlog_size file ≤ 268435456 → ¬ ¬ ((verdict : Verdict) × SaysOfVerilog top (flat_rules names by_rules) file verdict)
  verilog_said top file value small = by (verilog_first top file) refl
    where
      by : (first : Option Verdict) → verilog_first top file ≡ first → ¬ ¬ ((verdict : Verdict) × SaidThen first (flat_rules names by_rules (vlog_design file top).cells (vlog_design file top).top (vlog_design file top).props) verdict)
      by (Some said) e never = never (said, refl)
      by None e never = of_cells (vlog_design file top).cells (vlog_design file top).top (vlog_design file top).props (verilog_cells_are file top value small (none_broken (first_G file top) (units (vlog_design file top).cells) e)) never
