-- What all cells of a file are made by, and the design of their cells.
use Rattle.std.specs.Prelude.{List}
use Rattle.net_hier.specs.Design.{Design}
use Rattle.net_hier.specs.declared.cells.HCell.{HCell}
use Rattle.to_edif.specs.declared.cells.Setting.{Setting}

-- the design of these cells, with the top, the properties and the order that stand behind the borrows
abbrev pub design_of : Setting → List HCell → Design
design_of setting cells = record { cells = cells; top = setting.top; props = setting.props.now; order = setting.order.now }
