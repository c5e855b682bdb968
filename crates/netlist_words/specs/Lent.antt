-- What lent values say.
use Rattle.std.specs.Prelude.{ℕ, List, Option, option_map}
use Rattle.std.specs.Borrow.{Bor}
use Rattle.net_hier.specs.Constants.{ConstantNames}
use Rattle.net_hier.specs.declared.constants.ConstName.{ConstName}
use Rattle.netlist_words.specs.Parsing.{Wanted}
use Rattle.netlist_words.specs.declared.command.Wanted.{Wanted as LentWanted}
use Rattle.netlist_words.specs.declared.constants.CellPort.{CellPort}
use Rattle.netlist_words.specs.declared.constants.Names.{Names}

-- the value of an option
abbrev pub lent_option : Option (Bor (List ℕ)) → Option (List ℕ)
lent_option value = option_map (λ text. text.now) value

-- the names of a constant's cell and port
abbrev pub name_of : CellPort → ConstName
name_of name = record { cell = name.cell.now; port = name.port.now }

-- the names of both constants
abbrev pub lent_names : Names → ConstantNames
lent_names names = record { zero = name_of names.zero; one = name_of names.one }

-- a design that is asked for
abbrev pub lent_wanted : LentWanted → Wanted
lent_wanted wanted = record { top = lent_option wanted.top; names = lent_names wanted.names }
