-- What each command makes of its input.
use Rattle.std.specs.Prelude.{◌≡◌, ℕ, List, [], ◌∷◌, false, Option, Some, None, codes, ⊤}
use Rattle.std.specs.Io.KnownBytes.{IsAtEnd}
use Rattle.nl_io.specs.Causes.{Rose}
use Rattle.edif_copies.specs.Answers.{IsEdifDesign, IsEdifFor}
use Rattle.edif_library.specs.Text.{EdifReads, EdifFault, EdifCut}
use Rattle.edif_values.specs.declared.file.EdifFile.{EdifFile}
use Rattle.edif_writer.specs.Forms.{edif_text}
use Rattle.flat_classes.specs.FlatSums.{flat_count}
use Rattle.flat_report.specs.Report.{IsReport}
use Rattle.net_lint.specs.Lint.{IsLint}
use Rattle.net_bits.specs.Names.{NameSet, has_name, with_name}
use Rattle.net_hier.specs.Constants.{ConstantNames}
use Rattle.net_flatten.specs.Flattening.{IsFlattening}
use Rattle.net_flatten_rules.specs.SameFlat.{SameFlat}
use Rattle.net_hier.specs.Design.{Design, top_name}
use Rattle.net_hier.specs.Units.{units}
use Rattle.net_hier.specs.declared.cells.HCell.{HCell}
use Rattle.net_hier.specs.declared.cells.HProp.{HProp}
use Rattle.edif_design.specs.Design.{edif_design}
use Rattle.edif_design.specs.FileRules.{first_E}
use Rattle.edif_library.specs.AnyLength.{EdifSpells}
use Rattle.vlog_modules.specs.AnyLength.{VlogSpells}
use Rattle.edif_resolve.specs.Answers as edif_answers
use Rattle.spice_text.specs.Texts.{spice_text}
use Rattle.spice_text.specs.declared.file.SpiceFile.{SpiceFile}
use Rattle.to_spice.specs.Answers.{IsSpiceFor}
use Rattle.to_spice_rules.specs.Answers.{KeepsRules}
use Rattle.to_verilog.specs.Answers.{IsVerilogFor}
use Rattle.to_verilog_rules.specs.Rules.{first_V}
use Rattle.vlog_design.specs.Design.{vlog_design}
use Rattle.vlog_design.specs.Names.{Name}
use Rattle.vlog_design.specs.Rules.{first_G}
use Rattle.vlog_design_laws.specs.Designs.{IsVlogDesign}
use Rattle.vlog_elab.specs.Answers as verilog_answers
use Rattle.vlog_modules.specs.Text.{VlogReads, VlogFault, VlogCut}
use Rattle.vlog_values.specs.declared.module.VlogFile.{VlogFile}
use Rattle.vlog_writer.specs.Forms.{vlog_text}
use Rattle.netlist_cli.specs.Generated.{IsGeneratedLine}
use Rattle.netlist_words.specs.declared.command.Command.{Command}
use Rattle.netlist_words.specs.declared.command.Command.TheVariants as commands
use Rattle.netlist_cli.specs.Outcomes.{FileLanguage, Meaning, SaidThen, Verdict, fine, breaks, breaks_of_tool, exceeds, exceeds_flat, or_refused, or_too_flat, said_first, said_of_count}
use Rattle.netlist_cli.specs.Tools.{BreaksFlatten, BreaksSpice, Flattens}

-- ---- the two languages

abbrev pub edif : FileLanguage
edif = record {
  File = EdifFile;
  reads = EdifReads;
  fault = EdifFault;
  cut = EdifCut;
  IsRead = λ i j. IsAtEnd j.left;
  HasFailed = λ i j. Rose i.faults j.faults;
}

abbrev pub verilog : FileLanguage
verilog = record {
  File = VlogFile;
  reads = VlogReads;
  fault = VlogFault;
  cut = VlogCut;
  IsRead = λ i j. IsAtEnd j.left;
  HasFailed = λ i j. Rose i.faults j.faults;
}

-- the language of commands that read nothing: whatever the bytes are, they have no fault, the input stays as it is, and it does not fail
abbrev pub no_input : FileLanguage
no_input = record {
  File = Unit {0};
  reads = λ bytes file. ⊤;
  fault = λ bytes fault. ⊥;
  cut = λ bytes. ⊥;
  IsRead = λ i j. j ≡ i;
  HasFailed = λ i j. ⊥;
}

-- ---- what is said of a file: the rules of its language, then the limit of a design, and then what the command asks of the design

-- what a command says of a design, by its cells, the number of its top and its properties
abbrev pub Judgement : Type 1
Judgement = List HCell → ℕ → List HProp → Verdict → Type 0

-- what is said of an EDIF file before a command asks anything of its design
abbrev pub edif_first : EdifFile → Option Verdict
edif_first file = said_first (first_E file) (units (edif_design file).cells)

-- and of a Verilog file under the module of this name
abbrev pub verilog_first : Name → VlogFile → Option Verdict
verilog_first top file = said_first (first_G file top) (units (vlog_design file top).cells)

-- what is said of an EDIF file by a command that says this of designs
abbrev pub SaysOfEdif : Judgement → EdifFile → Verdict → Type 0
SaysOfEdif judge file = SaidThen (edif_first file) (judge (edif_design file).cells (edif_design file).top (edif_design file).props)

-- and of a Verilog file under the module of this name
abbrev pub SaysOfVerilog : Name → Judgement → VlogFile → Verdict → Type 0
SaysOfVerilog top judge file = SaidThen (verilog_first top file) (judge (vlog_design file top).cells (vlog_design file top).top (vlog_design file top).props)

-- each design will do
abbrev pub any_design : Judgement
any_design cells top props verdict = fine ≡ verdict

-- the flat count is within the limit of the flat tools
abbrev pub few_flat : Judgement
few_flat cells top props verdict = or_too_flat (flat_count cells top) fine ≡ verdict

-- the set with these names too
abbrev pub with_names : NameSet → List Name → NameSet
with_names set [] = set
with_names set (name ∷ names) = with_names (with_name set name) names

-- the set of these names of parameters, told apart byte for byte
abbrev pub params_of : List Name → NameSet
params_of names = with_names (record { up_to_case = false; names = [] }) names

-- the rules of Verilog as a target, where these are the names of parameters
abbrev pub target_rules : NameSet → Judgement
target_rules params cells top props verdict = or_refused (first_V cells top props (has_name params)) fine ≡ verdict

-- the rules of SPICE: none is broken, or this is the first object of the lowest broken rule
abbrev pub spice_rules : Judgement
spice_rules cells top props fine = KeepsRules cells
spice_rules cells top props (breaks refusal) = ⊥
spice_rules cells top props (breaks_of_tool refusal) = BreaksSpice cells refusal
spice_rules cells top props (exceeds count) = ⊥
spice_rules cells top props (exceeds_flat count) = ⊥

-- what is said of the flattened design of a design of these parts, where these cells stand for the constants
pub record SaysOfFlat (names : ConstantNames) (judge : Judgement) (cells : List HCell) (top : ℕ) (props : List HProp) (verdict : Verdict) : Type 0 where
  pub flat : Design
  pub flattens : Flattens names cells top props flat
  pub is_said : judge flat.cells flat.top flat.props verdict

-- the first object of the lowest broken rule of flattened designs, or what is said of the flattened design
abbrev pub SaysFlattened : ConstantNames → Judgement → Judgement
SaysFlattened names judge cells top props fine = SaysOfFlat names judge cells top props fine
SaysFlattened names judge cells top props (breaks refusal) = SaysOfFlat names judge cells top props (breaks refusal)
SaysFlattened names judge cells top props (breaks_of_tool refusal) = BreaksFlatten names cells top props refusal
SaysFlattened names judge cells top props (exceeds count) = ⊥
SaysFlattened names judge cells top props (exceeds_flat count) = ⊥

-- the flat limit, the rules of flattened designs, and then what is said so of the flattened design
abbrev pub flat_rules : ConstantNames → Judgement → Judgement
flat_rules names judge cells top props = SaidThen (said_of_count (flat_count cells top)) (SaysFlattened names judge cells top props)

-- the rules of Verilog as a target, without names of parameters
abbrev pub plain_target : Judgement
plain_target = target_rules (params_of [])

-- ---- the texts

-- what is written of a file that breaks no rule
abbrev pub ok_text : List ℕ
ok_text = codes "ok\n"

-- The text is that of modules that are the same as the design: cell by cell, and so as a whole, whichever cells stand for the constants.
-- Whatever its length, the text spells these modules.
pub record IsVerilogOf (design : Design) (text : List ℕ) : Type 0 where
  pub modules : VlogFile
  pub same : IsVerilogFor design modules
  pub is_text : text ≡ vlog_text modules
  pub spells : VlogSpells text modules

-- The text is that of an EDIF file that is the same as the design, where these cells stand for the constants: cell by cell, and so as a
-- whole. Whatever its length, the text spells this file.
pub record IsEdifOf (names : ConstantNames) (design : Design) (text : List ℕ) : Type 0 where
  pub file : EdifFile
  pub same : IsEdifFor names design file
  pub is_text : text ≡ edif_text file
  pub spells : EdifSpells text file

-- The text is that of subcircuits that have the same pins as the design, whose rules of SPICE it keeps; it reads as these subcircuits.
pub record IsSpiceOf (design : Design) (text : List ℕ) : Type 0 where
  pub file : SpiceFile
  pub same : IsSpiceFor design file
  pub is_text : text ≡ spice_text file

-- The text is that of an EDIF file of the flattened design, where these cells stand for the constants: it breaks no rule, and each design that
-- says what the file says is the design as one cell of leaf instances. Whatever its length, the text spells this file.
pub record IsFlatEdifOf (names : ConstantNames) (design : Design) (text : List ℕ) : Type 0 where
  pub flat : Design
  pub flattens : IsFlattening names design flat
  pub written : IsEdifOf names flat text
  pub same_flat : (other : Design) → IsEdifDesign written.file other → SameFlat names design other

-- The same of modules, under the name of the design's top.
pub record IsFlatVerilogOf (names : ConstantNames) (design : Design) (text : List ℕ) : Type 0 where
  pub flat : Design
  pub flattens : IsFlattening names design flat
  pub written : IsVerilogOf flat text
  pub same_flat : (other : Design) → IsVlogDesign written.modules (top_name flat.cells flat.top) other → SameFlat names design other

-- The text is made of a design that says what the file says.
pub record IsMadeOfDesign {File : Type 0} (IsDesignOf : File → Design → Type 0) (IsMade : Design → List ℕ → Type 0) (file : File) (text : List ℕ) : Type 0 where
  pub design : Design
  pub is_design : IsDesignOf file design
  pub made : IsMade design text

-- ---- the commands

-- what a command asks of a file, and the texts that may be written
abbrev pub meaning : (language : FileLanguage) → (language.File → Verdict → Type 0) → (language.File → List ℕ → Type 0) → Meaning
meaning language IsSaid IsMade = record { question = record { language = language; IsSaid = IsSaid }; IsMade = IsMade }

-- what a command asks of a design: that of an EDIF file, or that of a Verilog file under the module of this name
abbrev pub of_design : Option Name → Judgement → (Design → List ℕ → Type 0) → Meaning
of_design None judge IsMade = meaning edif (SaysOfEdif judge) (IsMadeOfDesign edif_answers.IsDesignOf IsMade)
of_design (Some top) judge IsMade = meaning verilog (SaysOfVerilog top judge) (IsMadeOfDesign (λ file design. verilog_answers.IsDesignOf file top design) IsMade)

-- the table of the commands, one line for each
abbrev pub meaning_of : Command → Meaning
meaning_of commands.Format = meaning edif (λ file verdict. fine ≡ verdict) (λ file text. text ≡ edif_text file)
meaning_of commands.Vformat = meaning verilog (λ file verdict. fine ≡ verdict) (λ file text. text ≡ vlog_text file)
meaning_of (commands.Check top) = of_design top any_design (λ design text. text ≡ ok_text)
meaning_of (commands.Report top names) = of_design top few_flat (IsReport names)
meaning_of (commands.Lint top names) = of_design top few_flat (IsLint names)
meaning_of (commands.ToVerilog names) = of_design None (target_rules (params_of names)) IsVerilogOf
meaning_of (commands.ToEdif top names) = of_design (Some top) any_design (IsEdifOf names)
meaning_of (commands.Flatten None names) = of_design None (flat_rules names any_design) (IsFlatEdifOf names)
meaning_of (commands.Flatten (Some top) names) = of_design (Some top) (flat_rules names plain_target) (IsFlatVerilogOf names)
meaning_of (commands.ToSpice top) = of_design top spice_rules IsSpiceOf
meaning_of (commands.Generate seed cells) = meaning no_input (λ file verdict. fine ≡ verdict) (λ file text. IsGeneratedLine seed cells text)

-- the command does not flatten a Verilog file
abbrev pub FlattensNoVerilog : Command → Type 0
FlattensNoVerilog (commands.Flatten (Some top) names) = ⊥
FlattensNoVerilog c = ⊤
