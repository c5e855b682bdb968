-- What is said of a file, by what is known of its design.
use Rattle.std.proofs.Common.{◌≡◌, ℕ, ◌<◌, ◌≤◌, List, true, false, Option, Some, None, refl, sym, ap, subst, arith}
use Rattle.std.specs.Prelude.{nat_lt}
use Rattle.nl_base.specs.declared.rule.Refusal.{Refusal}
use Rattle.net_hier.specs.Design.{Design}
use Rattle.net_hier.specs.Units.{units}
use Rattle.net_hier.specs.Valid.{unit_limit}
use Rattle.net_hier.specs.declared.cells.HCell.{HCell}
use Rattle.net_hier.specs.declared.cells.HProp.{HProp}
use Rattle.edif_design.specs.Design.{edif_design}
use Rattle.edif_design.specs.FileRules.{first_E}
use Rattle.edif_values.specs.declared.file.EdifFile.{EdifFile}
use Rattle.edif_resolve.specs.Answers as edif
use Rattle.vlog_design.specs.Design.{vlog_design}
use Rattle.vlog_design.specs.Rules.{first_G}
use Rattle.vlog_elab.specs.Answers as verilog
use Rattle.vlog_values.specs.declared.module.VlogFile.{VlogFile}
use Rattle.flat_classes.specs.FlatSums.{flat_limit}
use Rattle.netlist_cli.specs.Meanings.{Judgement, SaysOfEdif, SaysOfVerilog, edif_first, verilog_first}
use Rattle.netlist_cli.specs.Outcomes.{SaidThen, Verdict, breaks, exceeds, exceeds_flat, fine, or_too_flat, said_first}

passes : (count : ℕ) → unit_limit < count → nat_lt unit_limit count ≡ true
passes count lt = grind (arith, lt)

within : (count : ℕ) → count ≤ unit_limit → nat_lt unit_limit count ≡ false
within count le = grind (arith, le)

module _ (first : Option Refusal) (count : ℕ) where
  -- a refusal is said first
  pub refused_first : (r : Refusal) → first ≡ Some r → said_first first count ≡ Some (breaks r)
  refused_first r e = rw e refl

  -- then the limit
  pub too_big_then : (n : ℕ) → first ≡ None → n ≡ count → unit_limit < n → said_first first count ≡ Some (exceeds n)
  too_big_then n e is_count lt = rw e (rw (passes count (subst (λ m. unit_limit < m) is_count lt)) (ap (λ m. Some (exceeds m)) (sym is_count)))

  -- and else nothing
  pub none_first : first ≡ None → count ≤ unit_limit → said_first first count ≡ None
  none_first e le = rw e (rw (within count le) refl)

module _ (IsSaid : Verdict → Type 0) (verdict : Verdict) where
  -- what is said first is said
  pub said_at_first : (first : Option Verdict) → first ≡ Some verdict → SaidThen first IsSaid verdict
  said_at_first None e = absurd cc
  said_at_first (Some said) e = cc

  -- where nothing is said first, what is said then is said
  pub said_then : (first : Option Verdict) → first ≡ None → IsSaid verdict → SaidThen first IsSaid verdict
  said_then None e h = h
  said_then (Some said) e h = absurd cc

-- what a command says of a design, in other words for the same parts
judged_alike : (judge : Judgement) (design : Design) (cells : List HCell) (top : ℕ) (props : List HProp) (verdict : Verdict) → design.cells ≡ cells → design.top ≡ top → design.props ≡ props
    → judge design.cells design.top design.props verdict → judge cells top props verdict
judged_alike judge design cells top props verdict c t p h = rw (c, t, p) at h

-- of an EDIF file that has a design is said what the command says of the design
pub of_edif_design : (file : EdifFile) (design : Design) (judge : Judgement) → edif.IsDesignOf file design → (verdict : Verdict) → judge design.cells design.top design.props verdict → SaysOfEdif judge file verdict
of_edif_design file design judge h verdict said =
    said_then (judge (edif_design file).cells (edif_design file).top (edif_design file).props) verdict (edif_first file)
    (none_first (first_E file) (units (edif_design file).cells) h.no_refusal (subst (λ cells. units cells ≤ unit_limit) h.same_cells h.is_hier.few_units))
    (judged_alike judge design (edif_design file).cells (edif_design file).top (edif_design file).props verdict h.same_cells h.same_top h.same_props said)

-- and of a Verilog file that has one under a top
pub of_design_under : (top : List ℕ) (file : VlogFile) (design : Design) (judge : Judgement) → verilog.IsDesignOf file top design → (verdict : Verdict) → judge design.cells design.top design.props verdict
    → SaysOfVerilog top judge file verdict
of_design_under top file design judge h verdict said =
    said_then (judge (vlog_design file top).cells (vlog_design file top).top (vlog_design file top).props) verdict (verilog_first top file)
    (none_first (first_G file top) (units (vlog_design file top).cells) h.no_refusal (subst (λ cells. units cells ≤ unit_limit) h.same_cells h.is_hier.few_units))
    (judged_alike judge design (vlog_design file top).cells (vlog_design file top).top (vlog_design file top).props verdict h.same_cells h.same_top h.same_props said)

-- ---- the flat limit

pub few_are_fine : (count : ℕ) → count ≤ flat_limit → or_too_flat count fine ≡ fine
few_are_fine count le = let e : nat_lt flat_limit count ≡ false = grind (arith, le) in rw e refl

pub too_flat : (n count : ℕ) → n ≡ count → flat_limit < n → or_too_flat count fine ≡ exceeds_flat n
too_flat n count is lt = let e : nat_lt flat_limit count ≡ true = grind (arith, is, lt) in rw e (ap exceeds_flat (sym is))
