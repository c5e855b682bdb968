-- The line that is written on errors for a failure. Each text is given with what follows it.
use Rattle.std.specs.Prelude.{ℕ, List, [], ◌∷◌, ◌++◌, Option, Some, None, codes}
use Rattle.std.specs.Fmt.{decimal}
use Rattle.nl_base.specs.Rules.{rule_name}
use Rattle.nl_base.specs.declared.rule.Refusal.{Refusal}
use Rattle.edif_writer.specs.Strings.{quoted}
use Rattle.nl_base.specs.Faults.{reason_name, reason_word}
use Rattle.nl_base.specs.declared.fault.Reason.{Reason}
use Rattle.nl_base.specs.declared.fault.TextFault.{TextFault}
use Rattle.netlist_cli.specs.declared.failure.Failure.{Failure}
use Rattle.netlist_cli.specs.declared.failure.Failure.TheVariants as failures
use Rattle.netlist_cli.specs.declared.tools.ToolRefusal.{ToolRefusal}
use Rattle.netlist_cli.specs.Tools.{tool_rule_name}

-- a blank and the word, where there is one
abbrev pub word_then : Option (List ℕ) → List ℕ → List ℕ
word_then None rest = rest
word_then (Some word) rest = codes " " ++ (word ++ rest)

-- REASON, or REASON WORD
unfoldable pub reason_then : Reason → List ℕ → List ℕ
reason_then reason rest = reason_name reason ++ word_then (reason_word reason) rest

-- fault LINE:COLUMN REASON, or fault LINE:COLUMN REASON WORD
unfoldable pub fault_then : TextFault → List ℕ → List ℕ
fault_then f rest = codes "fault " ++ (decimal f.place.line ++ (codes ":" ++ (decimal f.place.column ++ (codes " " ++ reason_then f.reason rest))))

-- the forms of all commands
unfoldable pub usage : List ℕ
usage = codes "usage: netlist format or vformat or check [--top NAME] or report [--top NAME] [--zero CELL.PORT] [--one CELL.PORT] or to-verilog {--parameter NAME} or to-edif --top NAME [--zero CELL.PORT] [--one CELL.PORT] or generate SEED CELLS or lint [--top NAME] [--zero CELL.PORT] [--one CELL.PORT] or flatten [--top NAME] [--zero CELL.PORT] [--one CELL.PORT] or to-spice [--top NAME]"

-- the names of a refusal, each as a string after a blank
abbrev pub names_then : List (List ℕ) → List ℕ → List ℕ
names_then [] rest = rest
names_then (name ∷ names) rest = codes " " ++ quoted name (names_then names rest)

-- refused RULE CELL, and the names
unfoldable pub refused_then : List ℕ → List ℕ → List (List ℕ) → List ℕ → List ℕ
refused_then rule cell names rest = codes "refused " ++ (rule ++ (codes " " ++ quoted cell (names_then names rest)))

-- a refusal by a rule of a language
abbrev pub refusal_then : Refusal → List ℕ → List ℕ
refusal_then r = refused_then (rule_name r.rule) r.cell r.names

-- a refusal by a rule of a tool
abbrev pub tool_refusal_then : ToolRefusal → List ℕ → List ℕ
tool_refusal_then r = refused_then (tool_rule_name r.rule) r.cell r.names

-- limit KIND NUMBER
unfoldable pub limit_then : List ℕ → ℕ → List ℕ → List ℕ
limit_then kind n rest = codes "limit " ++ (kind ++ (codes " " ++ (decimal n ++ rest)))

-- what is told of a failure
unfoldable pub message_then : Failure → List ℕ → List ℕ
message_then (failures.Text f) rest = fault_then f rest
message_then (failures.Refused r) rest = refusal_then r rest
message_then (failures.RefusedByTool r) rest = tool_refusal_then r rest
message_then failures.ReadFault rest = codes "read fault" ++ rest
message_then failures.WriteFault rest = codes "write fault" ++ rest
message_then failures.Usage rest = usage ++ rest
message_then failures.NoMemory rest = codes "no memory" ++ rest
message_then failures.InputLimit rest = codes "limit input" ++ rest
message_then (failures.DesignLimit n) rest = limit_then (codes "design") n rest
message_then (failures.FlatLimit n) rest = limit_then (codes "flat") n rest

-- the line, with its line feed
unfoldable pub line : Failure → List ℕ
line f = message_then f (codes "\n")
