-- The size of a design.
use Rattle.std.specs.Prelude.{ℕ, ◌+◌, ◌-◌, ◌^◌, List, length, min, sum_by}
use Rattle.net_hier.specs.Cells.{width_of}
use Rattle.net_hier.specs.declared.cells.HCell.{HCell}

-- how many port bits a cell has
abbrev pub port_bits : HCell → ℕ
port_bits cell = sum_by (λ port. width_of port.range) cell.ports

-- the port bits, nets and joins of a cell
abbrev pub cell_units : HCell → ℕ
cell_units cell = port_bits cell + length cell.nets + length cell.joins

-- the port bits, nets and joins of all cells, or 2^64-1 where there are more
abbrev pub units : List HCell → ℕ
units cells = min (2 ^ 64 - 1) (sum_by cell_units cells)
