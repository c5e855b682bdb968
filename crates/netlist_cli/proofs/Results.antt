-- Of the same bytes one thing comes.
use Rattle.std.proofs.Common.{◌≡◌, ℕ, List, [], Option, Some, None, refl, sym, ap, subst, ◌∙◌}
use Rattle.nl_base.specs.declared.fault.TextFault.{TextFault}
use Rattle.nl_base.specs.declared.rule.Refusal.{Refusal}
use Rattle.nl_io.specs.Causes.{Rose}
use Rattle.nl_io.specs.Sources.{Supply}
use Rattle.edif_library.proofs.AtMostOne as edif_laws
use Rattle.vlog_modules.proofs.AtMostOne as verilog_laws
use Rattle.flat_classes.specs.FlatSums.{flat_count}
use Rattle.net_bits.specs.Names.{has_name}
use Rattle.net_hier.specs.Constants.{ConstantNames}
use Rattle.net_hier.specs.Design.{Design}
use Rattle.net_hier.specs.declared.cells.HCell.{HCell}
use Rattle.net_hier.specs.declared.cells.HProp.{HProp}
use Rattle.to_spice_rules.proofs.One.{broken, one_refusal}
use Rattle.to_verilog_rules.specs.Rules.{first_V}
use Rattle.vlog_design.specs.Names.{Name}
use Rattle.vlog_bounds.proofs.Modules.{file_is_value}
use Rattle.vlog_bounds.proofs.SizeLaw.{file_within}
use Rattle.vlog_tokens.specs.Proper.{AreBytes}
use Rattle.netlist_words.specs.declared.command.Command.{Command}
use Rattle.netlist_words.specs.declared.command.Command.TheVariants as commands
use Rattle.netlist_cli.specs.Meanings.{IsEdifOf, IsFlatEdifOf, IsFlatVerilogOf, FlattensNoVerilog, IsVerilogOf, Judgement, SaysFlattened, any_design, edif, edif_first, flat_rules, meaning_of, no_input, of_design, params_of, plain_target, spice_rules, verilog, verilog_first}
use Rattle.netlist_cli.specs.Outcomes.{FileLanguage, Question, SaidThen, or_refused, or_too_flat, said_of_count, Verdict, fine, breaks, breaks_of_tool, exceeds, exceeds_flat, Outcome, faulty, too_long, judged, Gives}
use Rattle.netlist_cli.specs.Tools.{BreaksSpice, spice_refusal}
use Rattle.netlist_cli.specs.declared.tools.ToolRefusal.{ToolRefusal}
use Rattle.netlist_cli.proofs.FlatSaid.{edif_said, verilog_said}
use Rattle.netlist_cli.proofs.Flattened.{one_of_flattened}
use Rattle.netlist_cli.proofs.SpiceSaid.{spice_said}

-- What a language says of all bytes: they read as at most one file, have at most one first fault or go on past the limit, and never two of these;
-- and an input has failed only where its count rose.
pub record IsExact (language : FileLanguage) : Type 0 where
  pub one : (bs : List ℕ) (v w : language.File) → language.reads bs v → language.reads bs w → v ≡ w
  pub one_fault : (bs : List ℕ) (f g : TextFault) → language.fault bs f → language.fault bs g → f ≡ g
  pub no_fault : (bs : List ℕ) (v : language.File) (f : TextFault) → language.reads bs v → language.fault bs f → ⊥
  pub no_cut : (bs : List ℕ) (v : language.File) → language.reads bs v → language.cut bs → ⊥
  pub no_fault_of_cut : (bs : List ℕ) (f : TextFault) → language.fault bs f → language.cut bs → ⊥
  pub failed_so : (i j : Supply) → language.HasFailed i j → Rose i.faults j.faults

edif_exact : IsExact edif
edif_exact = record {
  one = edif_laws.one_file;
  one_fault = edif_laws.one_first_fault;
  no_fault = edif_laws.file_or_fault;
  no_cut = edif_laws.file_or_cut;
  no_fault_of_cut = edif_laws.fault_or_cut;
  failed_so = λ i j h. h;
}

verilog_exact : IsExact verilog
verilog_exact = record {
  one = verilog_laws.one_file;
  one_fault = verilog_laws.one_first_fault;
  no_fault = verilog_laws.file_or_fault;
  no_cut = verilog_laws.file_or_cut;
  no_fault_of_cut = verilog_laws.fault_or_cut;
  failed_so = λ i j h. h;
}

no_input_exact : IsExact no_input
no_input_exact = record {
  one = λ bs v w h k. refl;
  one_fault = λ bs f g h k. absurd h;
  no_fault = λ bs v f h k. absurd k;
  no_cut = λ bs v h k. absurd k;
  no_fault_of_cut = λ bs f h k. absurd h;
  failed_so = λ i j h. absurd h;
}

-- ---- of each file one thing is said

-- The language is exact, and of each file one thing is said at most.
pub record IsSettled (q : Question) : Type 0 where
  pub exact : IsExact q.language
  pub one_said : (file : q.language.File) (v w : Verdict) → q.IsSaid file v → q.IsSaid file w → v ≡ w

-- It cannot be that nothing is said of a file.
abbrev pub HasSaid : Question → Type 0
HasSaid q = (file : q.language.File) → ¬ ¬ ((verdict : Verdict) × q.IsSaid file verdict)

-- one thing is said that is this one
same_said : (said v w : Verdict) → said ≡ v → said ≡ w → v ≡ w
same_said said v w h k = sym h ∙ k

-- of each design one thing is said at most
abbrev SaysOne : Judgement → Type 0
SaysOne judge = (cells : List HCell) (top : ℕ) (props : List HProp) (v w : Verdict) → judge cells top props v → judge cells top props w → v ≡ w

-- it cannot be that nothing is said of a design
abbrev SaysSome : Judgement → Type 0
SaysSome judge = (cells : List HCell) (top : ℕ) (props : List HProp) → ¬ ¬ ((verdict : Verdict) × judge cells top props verdict)

one_then : (first : Option Verdict) (said : Verdict → Type 0) → ((v w : Verdict) → said v → said w → v ≡ w) → (v w : Verdict) → SaidThen first said v → SaidThen first said w → v ≡ w
one_then None said one v w h k = one v w h k
one_then (Some first) said one v w h k = same_said first v w h k

some_then : (first : Option Verdict) (said : Verdict → Type 0) → ¬ ¬ ((verdict : Verdict) × said verdict) → ¬ ¬ ((verdict : Verdict) × SaidThen first said verdict)
some_then None said some = some
some_then (Some first) said some = λ none. none (first, refl)

-- a command that asks for designs
design_settled : (top : Option Name) (judge : Judgement) (IsMade : Design → List ℕ → Type 0) → SaysOne judge → IsSettled (of_design top judge IsMade).question
design_settled None judge IsMade says = record { exact = edif_exact; one_said = λ file. one_then (edif_first file) _ (says _ _ _) }
design_settled (Some top) judge IsMade says = record { exact = verilog_exact; one_said = λ file. one_then (verilog_first top file) _ (says _ _ _) }

design_said : (top : Option Name) (judge : Judgement) (IsMade : Design → List ℕ → Type 0) → SaysSome judge → HasSaid (of_design top judge IsMade).question
design_said None judge IsMade says = λ file. some_then (edif_first file) _ (says _ _ _)
design_said (Some top) judge IsMade says = λ file. some_then (verilog_first top file) _ (says _ _ _)

-- a judgement by a function
one_by_function : (f : List HCell → ℕ → List HProp → Verdict) → SaysOne (λ cells top props verdict. f cells top props ≡ verdict)
one_by_function f cells top props = same_said (f cells top props)

some_by_function : (f : List HCell → ℕ → List HProp → Verdict) → SaysSome (λ cells top props verdict. f cells top props ≡ verdict)
some_by_function f cells top props none = none (f cells top props, refl)

abbrev any_said : List HCell → ℕ → List HProp → Verdict
any_said cells top props = fine

abbrev few_said : List HCell → ℕ → List HProp → Verdict
few_said cells top props = or_too_flat (flat_count cells top) fine

abbrev target_found : List Name → List HCell → ℕ → List HProp → Option Refusal
target_found names cells top props = first_V cells top props (has_name (params_of names))

abbrev target_said : List Name → List HCell → ℕ → List HProp → Verdict
target_said names cells top props = or_refused (target_found names cells top props) fine

-- no rule of a target
abbrev no_rules : List HCell → ℕ → List HProp → Option Refusal
no_rules cells top props = None

-- a judgement of the flattened design
flat_one : (names : ConstantNames) (judge : Judgement) → SaysOne judge → SaysOne (flat_rules names judge)
flat_one names judge one cells top props = one_then (said_of_count (flat_count cells top)) (SaysFlattened names judge cells top props) (one_of_flattened names judge cells top props one)

-- one refusal tells the first object that breaks a rule of SPICE
one_breaks : (cells : List HCell) (r s : ToolRefusal) → BreaksSpice cells r → BreaksSpice cells s → r ≡ s
one_breaks cells r s h k = h.is_refusal ∙ (ap spice_refusal (one_refusal cells h.first k.first h.is_first k.is_first) ∙ sym k.is_refusal)

one_of_spice : (cells : List HCell) (top : ℕ) (props : List HProp) (v w : Verdict) → spice_rules cells top props v → spice_rules cells top props w → v ≡ w
one_of_spice cells top props fine fine h k = refl
one_of_spice cells top props fine (breaks r) h k = absurd k
one_of_spice cells top props fine (breaks_of_tool r) h k = absurd (broken cells k.first k.is_first h)
one_of_spice cells top props fine (exceeds n) h k = absurd k
one_of_spice cells top props fine (exceeds_flat n) h k = absurd k
one_of_spice cells top props (breaks r) w h k = absurd h
one_of_spice cells top props (breaks_of_tool r) fine h k = absurd (broken cells h.first h.is_first k)
one_of_spice cells top props (breaks_of_tool r) (breaks s) h k = absurd k
one_of_spice cells top props (breaks_of_tool r) (breaks_of_tool s) h k = ap breaks_of_tool (one_breaks cells r s h k)
one_of_spice cells top props (breaks_of_tool r) (exceeds n) h k = absurd k
one_of_spice cells top props (breaks_of_tool r) (exceeds_flat n) h k = absurd k
one_of_spice cells top props (exceeds n) w h k = absurd h
one_of_spice cells top props (exceeds_flat n) w h k = absurd h

-- what each command asks
pub settled_of : (c : Command) → IsSettled (meaning_of c).question
settled_of commands.Format = record { exact = edif_exact; one_said = λ file. same_said fine }
settled_of commands.Vformat = record { exact = verilog_exact; one_said = λ file. same_said fine }
settled_of (commands.Check top) = design_settled top _ _ (one_by_function any_said)
settled_of (commands.Report top names) = design_settled top _ _ (one_by_function few_said)
settled_of (commands.Lint top names) = design_settled top _ _ (one_by_function few_said)
settled_of (commands.ToVerilog names) = design_settled None _ IsVerilogOf (one_by_function (target_said names))
settled_of (commands.ToEdif top names) = design_settled (Some top) _ (IsEdifOf names) (one_by_function any_said)
settled_of (commands.Flatten None names) = design_settled None _ (IsFlatEdifOf names) (flat_one names any_design (one_by_function any_said))
settled_of (commands.Flatten (Some top) names) = design_settled (Some top) _ (IsFlatVerilogOf names) (flat_one names plain_target (one_by_function (target_said [])))
settled_of (commands.ToSpice top) = design_settled top _ _ one_of_spice
settled_of (commands.Generate seed cells) = record { exact = no_input_exact; one_said = λ file. same_said fine }

-- what is said by each command but one that flattens a Verilog file
pub said_of : (c : Command) → FlattensNoVerilog c → HasSaid (meaning_of c).question
said_of commands.Format never = λ file none. none (fine, refl)
said_of commands.Vformat never = λ file none. none (fine, refl)
said_of (commands.Check top) never = design_said top _ _ (some_by_function any_said)
said_of (commands.Report top names) never = design_said top _ _ (some_by_function few_said)
said_of (commands.Lint top names) never = design_said top _ _ (some_by_function few_said)
said_of (commands.ToVerilog names) never = design_said None _ IsVerilogOf (some_by_function (target_said names))
said_of (commands.ToEdif top names) never = design_said (Some top) _ (IsEdifOf names) (some_by_function any_said)
said_of (commands.Flatten None names) never = edif_said names no_rules
said_of (commands.Flatten (Some top) names) never = absurd never
said_of (commands.ToSpice top) never = design_said top _ _ spice_said
said_of (commands.Generate seed cells) never = λ file none. none (fine, refl)

-- what is said of each file as which bytes read
pub said_of_read : (c : Command) (bs : List ℕ) → AreBytes bs → (file : (meaning_of c).question.language.File) → (meaning_of c).question.language.reads bs file → ¬ ¬ ((verdict : Verdict) × (meaning_of c).question.IsSaid file verdict)
said_of_read (commands.Flatten (Some top) names) bs all file reads = verilog_said names (target_found []) top file (file_is_value bs file all reads) (file_within bs file reads)
said_of_read (commands.Flatten None names) bs all file reads = said_of (commands.Flatten None names) tt file
said_of_read commands.Format bs all file reads = said_of commands.Format tt file
said_of_read commands.Vformat bs all file reads = said_of commands.Vformat tt file
said_of_read (commands.Check top) bs all file reads = said_of (commands.Check top) tt file
said_of_read (commands.Report top names) bs all file reads = said_of (commands.Report top names) tt file
said_of_read (commands.Lint top names) bs all file reads = said_of (commands.Lint top names) tt file
said_of_read (commands.ToVerilog names) bs all file reads = said_of (commands.ToVerilog names) tt file
said_of_read (commands.ToEdif top names) bs all file reads = said_of (commands.ToEdif top names) tt file
said_of_read (commands.ToSpice top) bs all file reads = said_of (commands.ToSpice top) tt file
said_of_read (commands.Generate seed cells) bs all file reads = said_of (commands.Generate seed cells) tt file

module _ (q : Question) (settled : IsSettled q) (bs : List ℕ) where
  abbrev exact : IsExact q.language
  exact = settled.exact

  pub one_outcome : (a b : Outcome) → Gives q bs a → Gives q bs b → a ≡ b
  one_outcome (faulty f) (faulty g) h k = ap faulty (exact.one_fault bs f g h k)
  one_outcome (faulty f) too_long h k = absurd (exact.no_fault_of_cut bs f h k)
  one_outcome (faulty f) (judged w) h k = absurd (exact.no_fault bs k.file f k.reads_as h)
  one_outcome too_long (faulty g) h k = absurd (exact.no_fault_of_cut bs g k h)
  one_outcome too_long too_long h k = refl
  one_outcome too_long (judged w) h k = absurd (exact.no_cut bs k.file k.reads_as h)
  one_outcome (judged v) (faulty g) h k = absurd (exact.no_fault bs h.file g h.reads_as k)
  one_outcome (judged v) too_long h k = absurd (exact.no_cut bs h.file h.reads_as k)
  one_outcome (judged v) (judged w) h k =
      ap judged (settled.one_said k.file v w (subst (λ file. q.IsSaid file v) (exact.one bs h.file k.file h.reads_as k.reads_as) h.is_said) k.is_said)
