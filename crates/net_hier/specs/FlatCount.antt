-- The size of a design that is taken apart into its paths.
use Rattle.std.specs.Prelude.{ℕ, ◌+◌, List, [], ◌∷◌, length}
use Rattle.net_hier.specs.Design.{IsCell, below_of}
use Rattle.net_hier.specs.Units.{port_bits}
use Rattle.net_hier.specs.declared.cells.HCell.{HCell}

mutual
  -- the sum over all paths from the cell, the empty one among them, of one and the port bits and nets of the cell there
  pub data FlatCount (cells : List HCell) : ℕ → ℕ → Type 0 where
    of_cell : {number below : ℕ} {cell : HCell} → IsCell cells number cell → FlatCountEach cells (below_of cell) below → FlatCount cells number (1 + port_bits cell + length cell.nets + below)

  -- the sum of these over a list of cells
  pub data FlatCountEach (cells : List HCell) : List ℕ → ℕ → Type 0 where
    no_instance : FlatCountEach cells [] 0
    an_instance : {number count more : ℕ} {rest : List ℕ} → FlatCount cells number count → FlatCountEach cells rest more → FlatCountEach cells (number ∷ rest) (count + more)
