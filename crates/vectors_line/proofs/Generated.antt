-- What is known of a file that is the generated one, and of its design.
use Rattle.std.proofs.Common.{arith, ◌≡◌, ℕ, ◌<◌, ◌≤◌, ◌^◌, sym, ap, ◌∙◌, subst}
use Rattle.std.specs.Prelude.{None}
use Rattle.edif_design.specs.Design.{edif_design}
use Rattle.edif_design.specs.FileRules.{first_E}
use Rattle.edif_design_laws.proofs.Designs.{answered_sound}
use Rattle.edif_library.specs.Text.{EdifReads}
use Rattle.edif_values.specs.declared.file.EdifFile.{EdifFile}
use Rattle.edif_resolve.specs.Answers.{IsDesignOf}
use Rattle.edif_writer.specs.Forms.{edif_text}
use Rattle.net_bits.specs.Names.{has_name}
use Rattle.net_hier.specs.Design.{Design}
use Rattle.net_hier.specs.Units.{units}
use Rattle.net_hier.specs.Valid.{unit_limit}
use Rattle.net_values.specs.Sound.{IsSound}
use Rattle.to_verilog_rules.specs.Rules.{first_V}
use Rattle.vectors.specs.Files.{generated}
use Rattle.vectors_laws.proofs.Values.{file_is}
use Rattle.vectors_laws.proofs.Whole.{design_fits, no_target_rule, none_broken}
use Rattle.vectors_line.specs.Lines.{no_params}
use Rattle.vectors_line.proofs.Whole.{text_reads_back}

pub file_reads : (seed cells : ℕ) (file : EdifFile) → file ≡ generated seed cells → cells ≤ 100000 → EdifReads (edif_text file) file
file_reads seed cells file same few = subst (λ (f : EdifFile). EdifReads (edif_text f) f) (sym same) (text_reads_back seed cells few)

pub file_clean : (seed cells : ℕ) (file : EdifFile) → file ≡ generated seed cells → 0 < cells → cells ≤ 100000 → first_E file ≡ None
file_clean seed cells file same some few = ap first_E same ∙ none_broken seed cells some (omega (arith, few))

pub file_fits : (seed cells : ℕ) (file : EdifFile) → file ≡ generated seed cells → 0 < cells → cells ≤ 100000 → units (edif_design file).cells ≤ unit_limit
file_fits seed cells file same some few = subst (λ (f : EdifFile). units (edif_design f).cells ≤ unit_limit) (sym same) (design_fits seed cells some (omega (arith, few)))

pub design_of_same : (seed cells : ℕ) (file : EdifFile) (design : Design) → file ≡ generated seed cells → IsDesignOf file design → IsDesignOf (generated seed cells) design
design_of_same seed cells file design same is = subst (λ (f : EdifFile). IsDesignOf f design) same is

pub target_clean : (seed cells : ℕ) (design : Design) → IsDesignOf (generated seed cells) design → 0 < cells → cells < 2 ^ 32 → first_V design.cells design.top design.props (has_name no_params) ≡ None
target_clean seed cells design is some small =
    (λ j. first_V (is.same_cells j) (is.same_top j) (is.same_props j) (has_name no_params)) ∙ no_target_rule seed cells some (omega (arith, small)) (has_name no_params)

pub design_sound : (seed cells : ℕ) (design : Design) → IsDesignOf (generated seed cells) design → cells < 2 ^ 32 → IsSound design
design_sound seed cells design is small = answered_sound (generated seed cells) design (file_is seed cells (omega (arith, small))) is
