-- What is made on the way from an input over its design to a text.
use Rattle.std.specs.Prelude.{◌≡◌, ◌≢◌, ℕ, ◌<◌, ⊤, List, [], Option, Some, None, Result, Ok, Err, IfSome}
use Rattle.std.specs.Io.KnownBytes.{IsAtEnd}
use Rattle.nl_io.specs.Sinks.{Receipt}
use Rattle.nl_io.specs.declared.source.Failed.{Failed}
use Rattle.nl_output.specs.Writing.{Writes}
use Rattle.nl_io.specs.Sources.{Supply}
use Rattle.edif_copies.specs.Answers.{IsEdifFor}
use Rattle.edif_library.specs.Text.{EdifReads}
use Rattle.edif_values.specs.declared.file.EdifFile.{EdifFile}
use Rattle.edif_values.specs.Values.{IsEdifValue}
use Rattle.edif_resolve.specs.Answers as edif_answers
use Rattle.flat_classes.specs.FlatSums.{IsFewFlat, flat_count, flat_limit}
use Rattle.net_bits.specs.Names.{NameSet}
use Rattle.net_flatten.specs.Flattening.{IsFlattening}
use Rattle.net_flatten_fits.specs.Named.{IsNamedByBytes}
use Rattle.net_flatten_rules.specs.SameFlat.{SameFlat}
use Rattle.net_hier.specs.Constants.{ConstantNames}
use Rattle.net_hier.specs.Design.{Design}
use Rattle.net_hier.specs.Valid.{IsValid}
use Rattle.net_values.specs.Sound.{IsSound}
use Rattle.to_verilog.specs.Answers.{IsTranslated}
use Rattle.vlog_design.specs.Names.{Name}
use Rattle.vlog_elab.specs.Answers as verilog_answers
use Rattle.vlog_modules.specs.Text.{VlogReads}
use Rattle.vlog_values.specs.Values.{IsVlogValue}
use Rattle.vlog_values.specs.declared.module.VlogFile.{VlogFile}
use Rattle.netlist_cli.specs.declared.failure.Failure.{Failure}
use Rattle.netlist_cli.specs.declared.failure.Failure.TheVariants as failures
use Rattle.netlist_cli.specs.declared.tools.ToolRefusal.{ToolRefusal}
use Rattle.netlist_cli.specs.Meanings.{Judgement, edif, edif_first, params_of, verilog, verilog_first}
use Rattle.netlist_cli.specs.Outcomes.{Question, Verdict, fine}
use Rattle.netlist_cli.specs.Runs.{IsCause, IsFailureOf}
use Rattle.netlist_cli.specs.Tools.{BreaksFlatten}

-- ---- from an input to its design

-- The input was read to its end as a file, and the design says what the file says.
pub record HasDesign {File : Type 0} (reads : List ℕ → File → Type 0) (IsDesignOf : File → Design → Type 0) (i j : Supply) (design : Design) : Type 0 where
  pub file : File
  pub reads_as : IfSome i.left (λ bytes. reads bytes file)
  pub ended : IsAtEnd j.left
  pub is_design : IsDesignOf file design

-- the design is that of an EDIF file, or that of a Verilog file under the module of this name
abbrev pub IsDesignRead : Option Name → Supply → Supply → Design → Type 0
IsDesignRead None i j design = HasDesign EdifReads edif_answers.IsDesignOf i j design
IsDesignRead (Some top) i j design = HasDesign VlogReads (λ file read. verilog_answers.IsDesignOf file top read) i j design

-- The values of a design that was read are within the limits of both languages, and its names are made of bytes.
pub record IsWithinLimits (design : Design) : Type 0 where
  pub sound : IsSound design
  pub named : IsNamedByBytes design

-- there is such a design
pub record ReadsDesign (top : Option Name) (i j : Supply) : Type 0 where
  pub design : Design
  pub is_read : IsDesignRead top i j design

-- what is asked of a file before a command asks anything of its design
abbrev pub first_question : Option Name → Question
first_question None = record { language = edif; IsSaid = λ file verdict. edif_first file ≡ Some verdict }
first_question (Some top) = record { language = verilog; IsSaid = λ file verdict. verilog_first top file ≡ Some verdict }

-- why there is no design, whatever a command asks of it
pub record IsNoDesign (top : Option Name) (i j : Supply) (failure : Failure) : Type 0 where
  pub unwritten : failure ≢ failures.WriteFault
  pub cause : IsCause (first_question top) i j failure

-- ---- from a design to a text

-- Nothing is wrong with a design, and this is how the writing of a text that may be made of it went.
pub record PutsMade {O : Type 0} (receipt : O → Receipt) (IsSaid : Verdict → Type 0) (IsMade : List ℕ → Type 0) (old new : O) (result : Result (Unit {0}) Failed) : Type 0 where
  pub is_fine : IsSaid fine
  pub text : List ℕ
  pub made : IsMade text
  pub put : Writes receipt old new text result

-- What a command does with a design of which this is said.
abbrev pub Makes : {O : Type 0} → (O → Receipt) → (Verdict → Type 0) → (List ℕ → Type 0) → O → O → Result (Unit {0}) Failure → Type 0
Makes receipt IsSaid IsMade old new (Ok u) = PutsMade receipt IsSaid IsMade old new (Ok tt)
Makes receipt IsSaid IsMade old new (Err failures.WriteFault) = (e : Failed) × PutsMade receipt IsSaid IsMade old new (Err e)
Makes receipt IsSaid IsMade old new (Err f) = IsFailureOf IsSaid f × (new ≡ old)

-- the same for a judgement of designs
abbrev pub MakesOf : {O : Type 0} → (O → Receipt) → Judgement → (Design → List ℕ → Type 0) → Design → O → O → Result (Unit {0}) Failure → Type 0
MakesOf receipt judge IsMade design = Makes receipt (judge design.cells design.top design.props) (IsMade design)

-- ---- to Verilog

-- the modules are the translation of the design, and can be written
pub record AreModulesFor (design : Design) (params : NameSet) (modules : VlogFile) : Type 0 where
  pub translated : IsTranslated design params modules
  pub value : IsVlogValue modules

-- ---- flattened designs

-- the design, which is valid, is flattened to the other one, and that is the design as one cell of leaf instances
pub record IsFlatOf (names : ConstantNames) (design flat : Design) : Type 0 where
  pub valid : IsValid design
  pub flattens : IsFlattening names design flat
  pub same : SameFlat names design flat

-- why a design, which is valid, is not flattened, whatever is asked of the flattened design; want of memory has no cause
pub record IsTooFlat (design : Design) (count : ℕ) : Type 0 where
  pub is_count : count ≡ flat_count design.cells design.top
  pub passes : flat_limit < count

pub record IsBroken (names : ConstantNames) (design : Design) (refusal : ToolRefusal) : Type 0 where
  pub few : IsFewFlat design
  pub breaks : BreaksFlatten names design.cells design.top design.props refusal

abbrev pub IsNotFlattened : ConstantNames → Design → Failure → Type 0
IsNotFlattened names design (failures.FlatLimit count) = IsTooFlat design count
IsNotFlattened names design (failures.RefusedByTool refusal) = IsBroken names design refusal
IsNotFlattened names design failures.NoMemory = ⊤
IsNotFlattened names design f = ⊥

-- the file is one for the design, which is valid, and can be written
pub record IsFileFor (names : ConstantNames) (design : Design) (file : EdifFile) : Type 0 where
  pub valid : IsValid design
  pub same : IsEdifFor names design file
  pub value : IsEdifValue file

-- the file is one for the flattened design
pub record IsFlatFile (names : ConstantNames) (design : Design) (file : EdifFile) : Type 0 where
  pub flat : Design
  pub is_flat : IsFlatOf names design flat
  pub is_file : IsFileFor names flat file

-- the modules are those of the flattened design, which is valid, without names of parameters
pub record AreFlatModules (names : ConstantNames) (design : Design) (modules : VlogFile) : Type 0 where
  pub flat : Design
  pub is_flat : IsFlatOf names design flat
  pub valid : IsValid flat
  pub are_modules : AreModulesFor flat (params_of []) modules
