-- How the words of a command are taken apart, from the front.
use Rattle.std.specs.Prelude.{ℕ, ◌^◌, List, [], ◌∷◌, length, Bool, true, false, Option, Some, None, option_map, codes, if◌then◌else◌, ◌&&◌, ◌==◌, not, nat_le, nat_lt}
use Rattle.std.specs.Fmt.{decimal}
use Rattle.std.specs.Option.{option_and_then}
use Rattle.std.specs.Str.Parse.{digits_value}
use Rattle.nl_base.specs.Case.{same_bytes}
use Rattle.nl_base.specs.RangeForm.{cut_at_last}
use Rattle.net_hier.specs.Constants.{ConstantNames}
use Rattle.net_hier.specs.declared.constants.ConstName.{ConstName}
use Rattle.netlist_words.specs.declared.command.Command.{Command}
use Rattle.netlist_words.specs.declared.command.Command.TheVariants as commands

-- ---- options

-- a word is the name of this option, and the word behind it a value, which is not empty
abbrev pub is_option : List ℕ → List ℕ → List ℕ → Bool
is_option name word value = same_bytes word name && not (length value == 0)

-- the value of the option of this name, where the words begin with it
abbrev pub option_value : List ℕ → List (List ℕ) → Option (List ℕ)
option_value name [] = None
option_value name (word ∷ []) = None
option_value name (word ∷ value ∷ words) = if is_option name word value then Some value else None

-- the words behind the option of this name and its value, or all of them where they do not begin with it
abbrev pub behind_option : List ℕ → List (List ℕ) → List (List ℕ)
behind_option name [] = []
behind_option name (word ∷ []) = word ∷ []
behind_option name (word ∷ value ∷ words) = if is_option name word value then words else word ∷ value ∷ words

-- the words are the option of this name and a value, any number of times
abbrev pub are_options : List ℕ → List (List ℕ) → Bool
are_options name [] = true
are_options name (word ∷ []) = false
are_options name (word ∷ value ∷ words) = is_option name word value && are_options name words

-- the values of words that are options with values, in their order
abbrev pub values_of : List (List ℕ) → List (List ℕ)
values_of [] = []
values_of (word ∷ []) = []
values_of (word ∷ value ∷ words) = value ∷ values_of words

-- what is found, where no word is left behind its options
abbrev pub if_none_left : {A : Type 0} → List (List ℕ) → Option A → Option A
if_none_left [] found = found
if_none_left (word ∷ words) found = None

-- ---- constants

-- the names before the last `.` of a word and behind it
abbrev pub cell_port : List ℕ → Option ConstName
cell_port word = option_map (λ sides. record { cell = sides.0; port = sides.1 }) (cut_at_last 46 word)

-- the word of an option, or this one where it is left out
abbrev pub word_or : Option (List ℕ) → List ℕ → List ℕ
word_or None usual = usual
word_or (Some word) usual = word

-- a name of 1 to 1,024 bytes
abbrev pub has_name_length : List ℕ → Bool
has_name_length text = nat_le 1 (length text) && nat_le (length text) 1024

-- both names of a constant have that length
abbrev pub have_name_lengths : ConstName → Bool
have_name_lengths name = has_name_length name.cell && has_name_length name.port

-- the two cells have different names, and each name has that length
abbrev pub are_constants : ConstantNames → Bool
are_constants names = not (same_bytes names.zero.cell names.one.cell) && (have_name_lengths names.zero && have_name_lengths names.one)

-- these constants, where they are some
abbrev pub if_constants : ConstantNames → Option ConstantNames
if_constants names = if are_constants names then Some names else None

-- the constants that these options choose, if any
abbrev pub constants_of : Option (List ℕ) → Option (List ℕ) → Option ConstantNames
constants_of zero one = option_and_then (λ z. option_and_then (λ o. if_constants (record { zero = z; one = o })) (cell_port (word_or one (codes "VCC.P")))) (cell_port (word_or zero (codes "GND.G")))

-- ---- commands

-- the constants that words choose: `[--zero CELL.PORT] [--one CELL.PORT]`
abbrev pub constants_behind : List (List ℕ) → Option ConstantNames
constants_behind words =
    if_none_left (behind_option (codes "--one") (behind_option (codes "--zero") words))
    (constants_of (option_value (codes "--zero") words) (option_value (codes "--one") (behind_option (codes "--zero") words)))

-- a design that is asked for: the name of its top module, if any, and the names of the constants
pub record Wanted : Type 0 where
  pub top : Option (List ℕ)
  pub names : ConstantNames

-- the design that words ask for: `[--top NAME] [--zero CELL.PORT] [--one CELL.PORT]`
abbrev pub wanted_of : List (List ℕ) → Option Wanted
wanted_of words = option_map (λ names. record { top = option_value (codes "--top") words; names = names }) (constants_behind (behind_option (codes "--top") words))

-- `check [--top NAME]`, by the words behind `check`
abbrev pub check_of : List (List ℕ) → Option Command
check_of words = if_none_left (behind_option (codes "--top") words) (Some (commands.Check (option_value (codes "--top") words)))

-- `report [--top NAME] [--zero CELL.PORT] [--one CELL.PORT]`, by the words behind `report`
abbrev pub report_of : List (List ℕ) → Option Command
report_of words = option_map (λ wanted. commands.Report wanted.top wanted.names) (wanted_of words)

-- `lint [--top NAME] [--zero CELL.PORT] [--one CELL.PORT]`, by the words behind `lint`
abbrev pub lint_of : List (List ℕ) → Option Command
lint_of words = option_map (λ wanted. commands.Lint wanted.top wanted.names) (wanted_of words)

-- `to-verilog {--parameter NAME}`, by the words behind `to-verilog`
abbrev pub to_verilog_of : List (List ℕ) → Option Command
to_verilog_of words = if are_options (codes "--parameter") words then Some (commands.ToVerilog (values_of words)) else None

-- `to-edif --top NAME [--zero CELL.PORT] [--one CELL.PORT]`, where this is the design that the words behind `to-edif` ask for
abbrev pub to_edif_for : Wanted → Option Command
to_edif_for wanted = option_map (λ top. commands.ToEdif top wanted.names) wanted.top

abbrev pub to_edif_of : List (List ℕ) → Option Command
to_edif_of words = option_and_then to_edif_for (wanted_of words)

-- `flatten [--top NAME] [--zero CELL.PORT] [--one CELL.PORT]`, by the words behind `flatten`
abbrev pub flatten_of : List (List ℕ) → Option Command
flatten_of words = option_map (λ wanted. commands.Flatten wanted.top wanted.names) (wanted_of words)

-- `to-spice [--top NAME]`, by the words behind `to-spice`
abbrev pub to_spice_of : List (List ℕ) → Option Command
to_spice_of words = if_none_left (behind_option (codes "--top") words) (Some (commands.ToSpice (option_value (codes "--top") words)))

-- the number below 2^64 that a word is the decimal text of
abbrev pub spelled_number : List ℕ → Option ℕ
spelled_number word = if nat_lt (digits_value 10 word) (2 ^ 64) && same_bytes (decimal (digits_value 10 word)) word then Some (digits_value 10 word) else None

-- `generate` with this seed and so many cells, where they are 2 to 100,000
abbrev pub generate_for : ℕ → ℕ → Option Command
generate_for seed cells = if nat_le 2 cells && nat_le cells 100000 then Some (commands.Generate seed cells) else None

-- `generate SEED CELLS`, by the words behind `generate`
abbrev pub generate_of : List (List ℕ) → Option Command
generate_of [] = None
generate_of (seed ∷ []) = None
generate_of (seed ∷ cells ∷ []) = option_and_then (λ s. option_and_then (generate_for s) (spelled_number cells)) (spelled_number seed)
generate_of (seed ∷ cells ∷ word ∷ words) = None

-- the command whose form the words have, if any
abbrev pub command : List (List ℕ) → Option Command
command [] = None
command (word ∷ words) =
    if same_bytes word (codes "format") then if_none_left words (Some commands.Format)
    else (if same_bytes word (codes "vformat") then if_none_left words (Some commands.Vformat)
    else (if same_bytes word (codes "check") then check_of words
    else (if same_bytes word (codes "report") then report_of words
    else (if same_bytes word (codes "lint") then lint_of words
    else (if same_bytes word (codes "to-verilog") then to_verilog_of words
    else (if same_bytes word (codes "to-edif") then to_edif_of words
    else (if same_bytes word (codes "flatten") then flatten_of words
    else (if same_bytes word (codes "to-spice") then to_spice_of words
    else (if same_bytes word (codes "generate") then generate_of words else None)))))))))
