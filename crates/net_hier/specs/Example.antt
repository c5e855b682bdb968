-- Three small designs: a cell whose port is joined to the constant zero, its translation with an added instance of a zero cell, and one in which the join is dropped.
use Rattle.std.specs.Prelude.{ℕ, [], ◌∷◌, None}
use Rattle.nl_base.specs.declared.value.Dir.TheVariants.{Output}
use Rattle.net_hier.specs.Design.{Design}
use Rattle.net_hier.specs.declared.cells.HCell.{HCell}
use Rattle.net_hier.specs.declared.cells.HPort.{HPort}
use Rattle.net_hier.specs.declared.nodes.Node.TheVariants.{Port, Pin, Net, Zero}

-- a scalar output
abbrev pub output : ℕ → HPort
output name = record { name = name ∷ []; range = None; dir = Output; props = [] }

-- the zero cell `GND`
abbrev pub zero_cell : HCell
zero_cell = record { name = 71 ∷ 78 ∷ 68 ∷ []; ports = output 71 ∷ []; instances = []; nets = []; joins = []; props = [] }

-- a cell whose only port is joined to the constant zero
abbrev pub tied_cell : HCell
tied_cell = record { name = 3 ∷ []; ports = output 4 ∷ []; instances = []; nets = []; joins = record { a = Port 0 0; b = Zero } ∷ []; props = [] }

-- the same cell with the zero's instance and a net
abbrev pub translated_cell : HCell
translated_cell = record {
  name = 3 ∷ [];
  ports = output 4 ∷ [];
  instances = record { name = 1 ∷ []; cell = 0; props = [] } ∷ [];
  nets = record { name = 4 ∷ []; props = [] } ∷ [];
  joins = record { a = Net 0; b = Port 0 0 } ∷ record { a = Net 0; b = Pin 0 0 0 } ∷ [];
  props = [];
}

-- the design of that cell alone
abbrev pub tied_design : Design
tied_design = record { cells = tied_cell ∷ []; top = 0; props = []; order = 0 ∷ [] }

-- the design of its translation
abbrev pub translated_design : Design
translated_design = record { cells = zero_cell ∷ translated_cell ∷ []; top = 1; props = []; order = 0 ∷ 1 ∷ [] }

-- the cell without its join
abbrev pub untied_cell : HCell
untied_cell = record { name = 3 ∷ []; ports = output 4 ∷ []; instances = []; nets = []; joins = []; props = [] }

-- the design of that cell
abbrev pub untied_design : Design
untied_design = record { cells = untied_cell ∷ []; top = 0; props = []; order = 0 ∷ [] }
