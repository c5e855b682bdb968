-- The flat count as a number that the cells and the top have, whatever the order of the cells.
use Rattle.std.specs.Prelude.{ℕ, zero, suc, ◌+◌, ◌-◌, ◌^◌, ◌≤◌, List, length, min, slice_get, sum_by, Option, Some, None}
use Rattle.net_hier.specs.Design.{Design, below_of}
use Rattle.net_hier.specs.Units.{port_bits}
use Rattle.net_hier.specs.declared.cells.HCell.{HCell}

-- one and the port bits and nets of the cell, and what is told of the cells of its instances, where there is a cell
abbrev pub sum_at : (ℕ → ℕ) → Option HCell → ℕ
sum_at below None = 0
sum_at below (Some cell) = 1 + port_bits cell + length cell.nets + sum_by below (below_of cell)

-- the sum, over all paths of fewer than so many instances from the cell of this number, of one and the port bits and nets of the cell there
abbrev pub flat_sum : ℕ → List HCell → ℕ → ℕ
flat_sum zero cells number = 0
flat_sum (suc levels) cells number = sum_at (flat_sum levels cells) (slice_get cells number)

-- the sum over all paths from the top, or 2^64-1 where it is larger: no path of a design without recursion has as many instances as there are cells
unfoldable pub flat_count : List HCell → ℕ → ℕ
flat_count cells top = min (2 ^ 64 - 1) (flat_sum (length cells) cells top)

-- the greatest flat count of a design that is taken apart
abbrev pub flat_limit : ℕ
flat_limit = 2000000

-- the flat count is within the limit of the flat tools
abbrev pub IsFewFlat : Design → Type 0
IsFewFlat design = flat_count design.cells design.top ≤ flat_limit
