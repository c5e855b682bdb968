-- Which words behind the program's name ask for which command. Options stand behind the command's word in the order of its form, and each at most once but
-- `--parameter`.
use Rattle.std.specs.Prelude.{◌≡◌, ◌≢◌, ℕ, ◌<◌, ◌≤◌, ◌^◌, List, [], ◌∷◌, ◌++◌, Option, Some, None, IfSome, codes}
use Rattle.std.specs.Fmt.{decimal}
use Rattle.std.specs.List.{AllByRecursion}
use Rattle.nl_base.specs.RangeForm.{IsFreeOf}
use Rattle.net_hier.specs.Constants.{AreConstantNames, ConstantNames, usual_names}
use Rattle.net_hier.specs.declared.constants.ConstName.{ConstName}
use Rattle.netlist_words.specs.declared.command.Command.{Command}
use Rattle.netlist_words.specs.declared.command.Command.TheVariants as commands

-- ---- options

-- the words of an option that may be left out: its name and its value, if any
abbrev pub option_words : List ℕ → Option (List ℕ) → List (List ℕ)
option_words name None = []
option_words name (Some value) = name ∷ value ∷ []

-- the words of an option that stands once for each value
abbrev pub repeated_words : List ℕ → List (List ℕ) → List (List ℕ)
repeated_words name [] = []
repeated_words name (value ∷ values) = name ∷ value ∷ repeated_words name values

-- a name is any word with a byte or more
abbrev pub IsName : List ℕ → Type 0
IsName name = name ≢ []

-- the word is CELL.PORT of these names: its last `.` stands between them
pub record IsCellPort (word : List ℕ) (name : ConstName) : Type 0 where
  pub is : word ≡ name.cell ++ (codes "." ++ name.port)
  pub is_last : IsFreeOf 46 name.port

-- the names of a constant's cell and port that an option chooses; the usual ones where it is left out
abbrev pub IsChosen : ConstName → Option (List ℕ) → ConstName → Type 0
IsChosen usual None name = name ≡ usual
IsChosen usual (Some word) name = IsCellPort word name

-- ---- the forms of commands

-- `WORD [--top NAME]`, with the name of this top, if any
pub record NamesTop (word : List ℕ) (words : List (List ℕ)) (top : Option (List ℕ)) : Type 0 where
  pub are : words ≡ word ∷ option_words (codes "--top") top
  pub named : IfSome top IsName

-- `WORD [--top NAME] [--zero CELL.PORT] [--one CELL.PORT]`, with the name of this top, if any, and these names of the constants
pub record NamesDesign (word : List ℕ) (words : List (List ℕ)) (top : Option (List ℕ)) (names : ConstantNames) : Type 0 where
  pub zero : Option (List ℕ)
  pub one : Option (List ℕ)
  pub are : words ≡ word ∷ (option_words (codes "--top") top ++ (option_words (codes "--zero") zero ++ option_words (codes "--one") one))
  pub named : IfSome top IsName
  pub is_zero : IsChosen usual_names.zero zero names.zero
  pub is_one : IsChosen usual_names.one one names.one
  pub are_names : AreConstantNames names

-- `WORD {--parameter NAME}`, with these names
pub record NamesParameters (word : List ℕ) (words names : List (List ℕ)) : Type 0 where
  pub are : words ≡ word ∷ repeated_words (codes "--parameter") names
  pub named : AllByRecursion IsName names

-- `generate SEED CELLS`, with these numbers: decimals without sign and without leading zeros
pub record NamesFile (words : List (List ℕ)) (seed cells : ℕ) : Type 0 where
  pub are : words ≡ codes "generate" ∷ decimal seed ∷ decimal cells ∷ []
  pub seed_fits : seed < 2 ^ 64
  pub some : 2 ≤ cells
  pub few : cells ≤ 100000

-- the table of the commands: the words ask for this one
abbrev pub IsCommand : List (List ℕ) → Command → Type 0
IsCommand words commands.Format = words ≡ codes "format" ∷ []
IsCommand words commands.Vformat = words ≡ codes "vformat" ∷ []
IsCommand words (commands.Check top) = NamesTop (codes "check") words top
IsCommand words (commands.Report top names) = NamesDesign (codes "report") words top names
IsCommand words (commands.Lint top names) = NamesDesign (codes "lint") words top names
IsCommand words (commands.ToVerilog names) = NamesParameters (codes "to-verilog") words names
IsCommand words (commands.ToEdif top names) = NamesDesign (codes "to-edif") words (Some top) names
IsCommand words (commands.Flatten top names) = NamesDesign (codes "flatten") words top names
IsCommand words (commands.ToSpice top) = NamesTop (codes "to-spice") words top
IsCommand words (commands.Generate seed cells) = NamesFile words seed cells

-- what is so of the command for which the words ask, if they ask for one
abbrev pub IfCommand : List (List ℕ) → (Command → Type 0) → Type 0
IfCommand words P = (c : Command) → IsCommand words c → P c

-- the words ask for no command
abbrev pub IsNoCommand : List (List ℕ) → Type 0
IsNoCommand words = (c : Command) → ¬ IsCommand words c

-- the words ask for this command, if there is one, and else for none
abbrev pub IsAsked : List (List ℕ) → Option Command → Type 0
IsAsked words None = IsNoCommand words
IsAsked words (Some c) = IsCommand words c
