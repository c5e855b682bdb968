-- What a command does that asks for the design of its input.
use Rattle.std.proofs.Common.{◌≡◌, ℕ, List, Option, Some, None, IfSome, Result, Ok, Err, refl, sym, ap, subst}
use Rattle.std.specs.Prelude.{IfOk, MatchResult}
use Rattle.std.specs.Io.KnownBytes.{IsAtEnd}
use Rattle.nl_io.specs.Sinks.{Receipt}
use Rattle.nl_io.specs.declared.source.Failed.{Failed}
use Rattle.nl_output.specs.Writing.{Writes}
use Rattle.nl_io.specs.Sources.{Supply}
use Rattle.edif_copies.specs.Answers.{IsEdifFor}
use Rattle.edif_design_laws.proofs.Designs.{answered_sound}
use Rattle.edif_library.specs.Text.{EdifReads}
use Rattle.edif_values.specs.declared.file.EdifFile.{EdifFile}
use Rattle.edif_plans.specs.Sound.{IsSoundDesign}
use Rattle.edif_rereading.proofs.Law as edif_law
use Rattle.edif_values.specs.Values.{IsEdifValue}
use Rattle.edif_resolve.specs.Answers as edif_answers
use Rattle.edif_value_laws.proofs.Sound.{sound_design}
use Rattle.edif_writer.specs.Forms.{edif_text}
use Rattle.flat_report.specs.Report.{IsReport}
use Rattle.flat_report.specs.Reports.{HasReported}
use Rattle.net_lint.specs.Lint.{IsLint}
use Rattle.net_lint.specs.Lints.{HasLinted}
use Rattle.net_bits.specs.Names.{NameSet}
use Rattle.net_flatten_fits.proofs.Files.{design_named, short_named}
use Rattle.net_flatten_over.proofs.Copied.{goes_over_copied}
use Rattle.net_hier.specs.Constants.{AreConstantNames, ConstantNames}
use Rattle.net_hier.specs.Design.{Design}
use Rattle.net_hier.specs.Valid.{HaveOwnInstances}
use Rattle.net_hier.proofs.Partners.{partner_owns_instances}
use Rattle.spice_text.specs.Texts.{spice_text}
use Rattle.spice_text.specs.declared.file.SpiceFile.{SpiceFile}
use Rattle.to_spice.specs.Answers.{IsSpiceFor}
use Rattle.vlog_design.specs.Names.{Name}
use Rattle.vlog_design_laws.proofs.ShortNames.{short_names}
use Rattle.vlog_design_laws.proofs.SoundValues.{sound}
use Rattle.vlog_design_laws.specs.Designs.{IsVlogDesign}
use Rattle.vlog_elab.specs.Answers as verilog_answers
use Rattle.vlog_modules.specs.Text.{VlogReads}
use Rattle.vlog_rereading.proofs.Law.{text_spells}
use Rattle.vlog_values.specs.Values.{IsVlogValue}
use Rattle.vlog_values.specs.declared.module.VlogFile.{VlogFile}
use Rattle.vlog_writer.specs.Forms.{vlog_text}
use Rattle.netlist_cli.specs.declared.failure.Failure.{Failure}
use Rattle.netlist_cli.specs.declared.failure.Failure.TheVariants as failures
use Rattle.netlist_cli.specs.Designs.{AreFlatModules, AreModulesFor, HasDesign, IsDesignRead, IsFlatFile, IsNoDesign, IsWithinLimits, Makes, MakesOf, PutsMade, ReadsDesign, first_question}
use Rattle.netlist_cli.specs.Meanings.{IsEdifOf, IsFlatEdifOf, IsFlatVerilogOf, IsMadeOfDesign, IsSpiceOf, IsVerilogOf, Judgement, SaysOfEdif, SaysOfVerilog, any_design, edif, edif_first, few_flat, flat_rules, meaning, of_design, plain_target, spice_rules, target_rules, verilog, verilog_first}
use Rattle.netlist_cli.specs.Outcomes.{FileLanguage, Verdict, fine, or_refused}
use Rattle.netlist_cli.specs.Runs.{Does, IsFailureOf}
use Rattle.netlist_cli.specs.Statuses.{after_writing}
use Rattle.netlist_cli.proofs.Flattened.{fine_said, own_instances}
use Rattle.netlist_cli.proofs.Halting.{cause_then, halted, said_causes, said_unwritten}
use Rattle.netlist_cli.proofs.Verdicts.{few_are_fine, of_design_under, of_edif_design, said_at_first}

-- ---- from a file that was read to its design

pub edif_design_is_read : (i j : Supply) (file : EdifFile) → IfSome i.left (λ bytes. EdifReads bytes file) → IsAtEnd j.left → (found : Result Design Failure)
    → MatchResult found (edif_answers.IsDesignOf file) (IsFailureOf (λ verdict. edif_first file ≡ Some verdict)) → MatchResult found (IsDesignRead None i j) (IsNoDesign None i j)
edif_design_is_read i j file reads ended (Ok design) h = record { file = file; reads_as = reads; ended = ended; is_design = h }
edif_design_is_read i j file reads ended (Err f) h = record {
  unwritten = said_unwritten (λ verdict. edif_first file ≡ Some verdict) f h;
  cause = said_causes (first_question None) i j file reads f h;
}

pub design_under_is_read : (top : Name) (i j : Supply) (file : VlogFile) → IfSome i.left (λ bytes. VlogReads bytes file) → IsAtEnd j.left → (found : Result Design Failure)
    → MatchResult found (verilog_answers.IsDesignOf file top) (IsFailureOf (λ verdict. verilog_first top file ≡ Some verdict)) → MatchResult found (IsDesignRead (Some top) i j) (IsNoDesign (Some top) i j)
design_under_is_read top i j file reads ended (Ok design) h = record { file = file; reads_as = reads; ended = ended; is_design = h }
design_under_is_read top i j file reads ended (Err f) h = record {
  unwritten = said_unwritten (λ verdict. verilog_first top file ≡ Some verdict) f h;
  cause = said_causes (first_question (Some top)) i j file reads f h;
}

-- the design of a Verilog file that can be written can be written in EDIF
pub design_under_is_sound : (top : Name) (file : VlogFile) → IsVlogValue file → (found : Result Design Failure)
    → MatchResult found (verilog_answers.IsDesignOf file top) (IsFailureOf (λ verdict. verilog_first top file ≡ Some verdict)) → IfOk found IsSoundDesign
design_under_is_sound top file value (Ok design) h =
    let said : IsVlogDesign file top design = record { same_cells = h.same_cells; same_top = h.same_top; same_props = h.same_props } in
    sound_design design (short_names file top value design said) (sound file top value design said)
design_under_is_sound top file value (Err f) h = tt

-- the design of a file that can be written is within limits
pub edif_design_within : (file : EdifFile) → IsEdifValue file → (found : Result Design Failure)
    → MatchResult found (edif_answers.IsDesignOf file) (IsFailureOf (λ verdict. edif_first file ≡ Some verdict)) → IfOk found IsWithinLimits
edif_design_within file value (Ok design) h = record { sound = answered_sound file design value h; named = design_named file value design h }
edif_design_within file value (Err f) h = tt

pub design_under_within : (top : Name) (file : VlogFile) → IsVlogValue file → (found : Result Design Failure)
    → MatchResult found (verilog_answers.IsDesignOf file top) (IsFailureOf (λ verdict. verilog_first top file ≡ Some verdict)) → IfOk found IsWithinLimits
design_under_within top file value (Ok design) h =
    let said : IsVlogDesign file top design = record { same_cells = h.same_cells; same_top = h.same_top; same_props = h.same_props } in
    record { sound = sound file top value design said; named = short_named design (short_names file top value design said) }
design_under_within top file value (Err f) h = tt

-- whether an EDIF file that was read has a design
pub file_is_judged : (i j : Supply) (file : EdifFile) → IfSome i.left (λ bytes. EdifReads bytes file) → IsAtEnd j.left → (judged : Result (Unit {0}) Failure)
    → MatchResult judged (λ done. edif_answers.HasDesign file) (IsFailureOf (λ verdict. edif_first file ≡ Some verdict)) → MatchResult judged (λ done. ReadsDesign None i j) (IsNoDesign None i j)
file_is_judged i j file reads ended (Ok done) h = record { design = h.design; is_read = record { file = file; reads_as = reads; ended = ended; is_design = h.is_design } }
file_is_judged i j file reads ended (Err f) h = edif_design_is_read i j file reads ended (Err f) h

-- whether a Verilog file that was read has a design
pub file_is_judged_under : (top : Name) (i j : Supply) (file : VlogFile) → IfSome i.left (λ bytes. VlogReads bytes file) → IsAtEnd j.left → (judged : Result (Unit {0}) Failure)
    → MatchResult judged (λ done. verilog_answers.HasDesign file top) (IsFailureOf (λ verdict. verilog_first top file ≡ Some verdict)) → MatchResult judged (λ done. ReadsDesign (Some top) i j) (IsNoDesign (Some top) i j)
file_is_judged_under top i j file reads ended (Ok done) h = record { design = h.design; is_read = record { file = file; reads_as = reads; ended = ended; is_design = h.is_design } }
file_is_judged_under top i j file reads ended (Err f) h = design_under_is_read top i j file reads ended (Err f) h

-- ---- from a design to what is done

module _ {O : Type 0} (receipt : O → Receipt) (old new : O) where
  -- a text that is made of a design is written, or a front of it
  pub text_is_made : (said : Verdict → Type 0) (IsMade : List ℕ → Type 0) (text : List ℕ) (r : Result (Unit {0}) Failed) → said fine → IsMade text → Writes receipt old new text r
      → Makes receipt said IsMade old new (after_writing r)
  text_is_made said IsMade text (Ok done) f made w = record { is_fine = f; text = text; made = made; put = w }
  text_is_made said IsMade text (Err failed) f made w = (failed, record { is_fine = f; text = text; made = made; put = w })

  -- nothing is made of a design
  pub none_is_made : (said : Verdict → Type 0) (IsMade : List ℕ → Type 0) (f : Failure) → IsFailureOf said f → new ≡ old → Makes receipt said IsMade old new (Err f)
  none_is_made said IsMade (failures.Text f) h s = absurd h
  none_is_made said IsMade failures.ReadFault h s = absurd h
  none_is_made said IsMade failures.WriteFault h s = absurd h
  none_is_made said IsMade failures.Usage h s = absurd h
  none_is_made said IsMade failures.NoMemory h s = (tt, s)
  none_is_made said IsMade failures.InputLimit h s = absurd h
  none_is_made said IsMade (failures.Refused r) h s = (h, s)
  none_is_made said IsMade (failures.RefusedByTool r) h s = (h, s)
  none_is_made said IsMade (failures.DesignLimit n) h s = (h, s)
  none_is_made said IsMade (failures.FlatLimit n) h s = (h, s)

  -- the report of a design was put, or a front of it
  pub report_is_made : (names : ConstantNames) (design : Design) (r : Result (Unit {0}) Failed) → HasReported receipt names design old new r
      → PutsMade receipt (few_flat design.cells design.top design.props) (IsReport names design) old new r
  report_is_made names design r h = record { is_fine = few_are_fine _ h.few; text = h.text; made = h.is_report; put = h.writes }

  -- the findings of a design were put, or a front of them
  pub lint_is_made : (names : ConstantNames) (design : Design) (r : Result (Unit {0}) Failed) → HasLinted receipt names design old new r
      → PutsMade receipt (few_flat design.cells design.top design.props) (IsLint names design) old new r
  lint_is_made names design r h = record { is_fine = few_are_fine _ h.few; text = h.text; made = h.is_lint; put = h.writes }

  -- modules of a design are written, or a front of their text
  pub modules_are_made : (design : Design) (params : NameSet) (modules : VlogFile) (r : Result (Unit {0}) Failed) → AreModulesFor design params modules → Writes receipt old new (vlog_text modules) r
      → MakesOf receipt (target_rules params) IsVerilogOf design old new (after_writing r)
  modules_are_made design params modules r h w =
      text_is_made (target_rules params design.cells design.top design.props) (IsVerilogOf design) (vlog_text modules) r (ap (λ first. or_refused first fine) h.translated.no_refusal)
      (record { modules = modules; same = h.translated.same; is_text = refl; spells = text_spells modules h.value }) w

  -- subcircuits of a design are written, or a front of their text
  pub subcircuits_are_made : (design : Design) (file : SpiceFile) (r : Result (Unit {0}) Failed) → IsSpiceFor design file → Writes receipt old new (spice_text file) r
      → MakesOf receipt spice_rules IsSpiceOf design old new (after_writing r)
  subcircuits_are_made design file r same w =
      text_is_made (spice_rules design.cells design.top design.props) (IsSpiceOf design) (spice_text file) r same.keeps_rules (record { file = file; same = same; is_text = refl }) w

  -- an EDIF file of a design is written, or a front of its text
  pub edif_is_made : (design : Design) (names : ConstantNames) (file : EdifFile) (r : Result (Unit {0}) Failed) → IsEdifFor names design file → IsEdifValue file → Writes receipt old new (edif_text file) r
      → MakesOf receipt any_design (IsEdifOf names) design old new (after_writing r)
  edif_is_made design names file r same value w =
      text_is_made (any_design design.cells design.top design.props) (IsEdifOf names design) (edif_text file) r refl (record { file = file; same = same; is_text = refl; spells = edif_law.text_spells file value }) w

  -- an EDIF file of the flattened design is written, or a front of its text
  pub flat_edif_is_made : (names : ConstantNames) (design : Design) (file : EdifFile) (r : Result (Unit {0}) Failed) → AreConstantNames names → IsFlatFile names design file → Writes receipt old new (edif_text file) r
      → MakesOf receipt (flat_rules names any_design) (IsFlatEdifOf names) design old new (after_writing r)
  flat_edif_is_made names design file r constants h w =
      text_is_made (flat_rules names any_design design.cells design.top design.props) (IsFlatEdifOf names design) (edif_text file) r (fine_said names any_design design h.flat h.is_flat refl) (record {
        flat = h.flat;
        flattens = h.is_flat.flattens;
        written = record { file = file; same = h.is_file.same; is_text = refl; spells = edif_law.text_spells file h.is_file.value };
        same_flat = λ other is.
            let own = subst (λ cells. HaveOwnInstances cells) (sym is.same_cells) (own_instances file h.is_file.same.no_refusal) in
            goes_over_copied names design h.flat other _ constants h.is_file.valid own h.is_flat.same (h.is_file.same.same_cells other is);
      }) w

  -- modules of the flattened design are written, or a front of their text
  pub flat_modules_are_made : (names : ConstantNames) (design : Design) (modules : VlogFile) (r : Result (Unit {0}) Failed) → AreConstantNames names → AreFlatModules names design modules
      → Writes receipt old new (vlog_text modules) r → MakesOf receipt (flat_rules names plain_target) (IsFlatVerilogOf names) design old new (after_writing r)
  flat_modules_are_made names design modules r constants h w =
      text_is_made (flat_rules names plain_target design.cells design.top design.props) (IsFlatVerilogOf names design) (vlog_text modules) r
      (fine_said names plain_target design h.flat h.is_flat (ap (λ first. or_refused first fine) h.are_modules.translated.no_refusal)) (record {
        flat = h.flat;
        flattens = h.is_flat.flattens;
        written = record { modules = modules; same = h.are_modules.translated.same; is_text = refl; spells = text_spells modules h.are_modules.value };
        same_flat = λ other is. (let cells = h.are_modules.translated.same.same_cells names constants other is in
            goes_over_copied names design h.flat other None constants h.valid (partner_owns_instances names h.flat other h.valid cells) h.is_flat.same cells);
      }) w

  module _ (i j : Supply) where
    module _ (language : FileLanguage) (IsSaid : language.File → Verdict → Type 0) (IsDesignOf : language.File → Design → Type 0) (IsMade : Design → List ℕ → Type 0) (design : Design)
        (h : HasDesign language.reads IsDesignOf i j design) (is_read : language.IsRead i j) (said : Verdict → Type 0) (of_file : (verdict : Verdict) → said verdict → IsSaid h.file verdict) where
      -- what is done with the design of a file, in the words of the file
      over_file : (r : Result (Unit {0}) Failure) → Makes receipt said (IsMade design) old new r → Does receipt (meaning language IsSaid (IsMadeOfDesign IsDesignOf IsMade)) i j old new r
      over_file (Ok done) m = record {
        text = m.text;
        is_text = record { file = h.file; reads_as = h.reads_as; is_fine = of_file fine m.is_fine; made = record { design = design; is_design = h.is_design; made = m.made } };
        ended = is_read;
        put = m.put;
      }
      over_file (Err failures.WriteFault) m = (
        m.0,
        record {
          text = m.1.text;
          is_text = record { file = h.file; reads_as = h.reads_as; is_fine = of_file fine m.1.is_fine; made = record { design = design; is_design = h.is_design; made = m.1.made } };
          ended = is_read;
          put = m.1.put;
        },
      )
      over_file (Err (failures.Text f)) m = absurd m.0
      over_file (Err failures.ReadFault) m = absurd m.0
      over_file (Err failures.Usage) m = absurd m.0
      over_file (Err failures.NoMemory) m = (tt, m.1)
      over_file (Err failures.InputLimit) m = absurd m.0
      over_file (Err (failures.Refused r)) m = (record { file = h.file; reads_as = h.reads_as; is_said = of_file _ m.0 }, m.1)
      over_file (Err (failures.RefusedByTool r)) m = (record { file = h.file; reads_as = h.reads_as; is_said = of_file _ m.0 }, m.1)
      over_file (Err (failures.DesignLimit n)) m = (record { file = h.file; reads_as = h.reads_as; is_said = of_file _ m.0 }, m.1)
      over_file (Err (failures.FlatLimit n)) m = (record { file = h.file; reads_as = h.reads_as; is_said = of_file _ m.0 }, m.1)

    -- what a command does with the design that it got
    pub design_is_used : (top : Option Name) (judge : Judgement) (IsMade : Design → List ℕ → Type 0) (design : Design) → IsDesignRead top i j design → (r : Result (Unit {0}) Failure)
        → MakesOf receipt judge IsMade design old new r → Does receipt (of_design top judge IsMade) i j old new r
    design_is_used None judge IsMade design h r m = over_file edif (SaysOfEdif judge) edif_answers.IsDesignOf IsMade design h h.ended _ (of_edif_design h.file design judge h.is_design) r m
    design_is_used (Some top) judge IsMade design h r m =
        over_file verilog (SaysOfVerilog top judge) (λ file read. verilog_answers.IsDesignOf file top read) IsMade design h h.ended _ (of_design_under top h.file design judge h.is_design) r m

    -- there is no design
    pub no_design_is_told : (top : Option Name) (judge : Judgement) (IsMade : Design → List ℕ → Type 0) (f : Failure) → IsNoDesign top i j f → new ≡ old → Does receipt (of_design top judge IsMade) i j old new (Err f)
    no_design_is_told None judge IsMade f h s =
        halted receipt (of_design None judge IsMade) i j old new f h.unwritten
        (cause_then edif (λ file verdict. edif_first file ≡ Some verdict) (SaysOfEdif judge) (λ file verdict. said_at_first _ verdict (edif_first file)) i j f h.cause) s
    no_design_is_told (Some top) judge IsMade f h s =
        halted receipt (of_design (Some top) judge IsMade) i j old new f h.unwritten
        (cause_then verilog (λ file verdict. verilog_first top file ≡ Some verdict) (SaysOfVerilog top judge) (λ file verdict. said_at_first _ verdict (verilog_first top file)) i j f h.cause) s
