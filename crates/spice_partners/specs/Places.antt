-- The places of port bits among all those of a cell.
use Rattle.std.specs.Prelude.{ℕ, zero, suc, ◌+◌, List, [], ◌∷◌}
use Rattle.net_hier.specs.Cells.{width_of}
use Rattle.net_hier.specs.declared.cells.HCell.{HCell}
use Rattle.net_hier.specs.declared.cells.HPort.{HPort}

-- the place of a bit of the port of this number among the bits of ports: behind those of the ports before it
abbrev pub place_in : List HPort → ℕ → ℕ → ℕ
place_in [] port bit = bit
place_in (first ∷ ports) zero bit = bit
place_in (first ∷ ports) (suc port) bit = width_of first.range + place_in ports port bit

-- the place of a port bit of a cell
abbrev pub place_of : HCell → ℕ → ℕ → ℕ
place_of cell port bit = place_in cell.ports port bit
