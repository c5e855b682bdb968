-- How many leaves a design has.
use Rattle.std.specs.Prelude.{ℕ, ◌+◌, List, [], ◌∷◌}
use Rattle.net_hier.specs.Cells.{IsLeaf}
use Rattle.net_hier.specs.Design.{IsCell, below_of}
use Rattle.net_hier.specs.declared.cells.HCell.{HCell}

mutual
  -- the number of paths, the empty one among them, that lead from the cell to a leaf
  pub data LeafCount (cells : List HCell) : ℕ → ℕ → Type 0 where
    leaf : {number : ℕ} {cell : HCell} → IsCell cells number cell → IsLeaf cell → LeafCount cells number 1
    inner : {number count : ℕ} {cell : HCell} → IsCell cells number cell → (IsLeaf cell → ⊥) → LeafCountEach cells (below_of cell) count → LeafCount cells number count

  -- the sum of these over a list of cells
  pub data LeafCountEach (cells : List HCell) : List ℕ → ℕ → Type 0 where
    no_instance : LeafCountEach cells [] 0
    an_instance : {number count more : ℕ} {rest : List ℕ} → LeafCount cells number count → LeafCountEach cells rest more → LeafCountEach cells (number ∷ rest) (count + more)
