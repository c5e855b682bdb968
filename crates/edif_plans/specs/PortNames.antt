-- The names of the ports that are written (EDIF 2 0 0, port, array and rename).
use Rattle.std.specs.Prelude.{◌≡◌}
use Rattle.edif_values.specs.Names.{port_original}
use Rattle.edif_values.specs.declared.name.PortName.{PortName}
use Rattle.edif_design.specs.CellRules.{ident_of}
use Rattle.edif_written.specs.Naming.{port_name_for}

-- the text of an array is its name and its range in square brackets; beside the identifier of a scalar stands a text only where it is another name
abbrev pub HasPlainText : PortName → Type 0
HasPlainText name = name ≡ port_name_for (ident_of name) (port_original name).0 (port_original name).1
