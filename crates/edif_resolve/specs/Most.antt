-- A bound on the units of a design, by the ports, nets and references of its cells.
use Rattle.std.specs.Prelude.{ℕ, ◌+◌, length, sum_by}
use Rattle.net_hier.specs.Cells.{width_of}
use Rattle.edif_values.specs.Names.{port_original}
use Rattle.edif_values.specs.declared.cell.Cell.{Cell}
use Rattle.edif_values.specs.declared.file.EdifFile.{EdifFile}
use Rattle.edif_values.specs.declared.net.Net.{Net}
use Rattle.edif_values.specs.declared.port.Port.{Port}
use Rattle.edif_design.specs.Parts.{nets, ports}
use Rattle.edif_design.specs.Reach.{reached_cells}

-- how many bits a port has
abbrev pub port_width : Port → ℕ
port_width port = width_of (port_original port.name).1

-- a net and the references in it, each of which is one join at most
abbrev pub net_units : Net → ℕ
net_units net = length net.joined + 1

-- the port bits, nets and references of a cell
abbrev pub most_units : Cell → ℕ
most_units cell = sum_by port_width (ports cell) + sum_by net_units (nets cell)

-- the port bits, nets and references of all reached cells
abbrev pub most_of_file : EdifFile → ℕ
most_of_file file = sum_by (λ place. most_units place.1.cell) (reached_cells file)
