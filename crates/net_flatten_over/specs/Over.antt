-- What it takes that a design which is the same as a flattened one is flat too.
use Rattle.std.specs.Prelude.{ℕ}
use Rattle.net_hier.specs.Cells.{IsLeaf}
use Rattle.net_hier.specs.Design.{Design}
use Rattle.net_hier.specs.Valid.{HasPaths, HaveOwnNames}
use Rattle.net_hier.specs.declared.cells.HCell.{HCell}
use Rattle.net_hier.specs.declared.cells.HInst.{HInst}
use Rattle.net_flatten_rules.specs.SameFlat.{IsTop, TopInstance}

-- the top and the cells of the instances are there, the instances of each cell have names of their own, and so have the ports of the top and of the cells of its instances
pub record HasOwnNames (design : Design) : Type 0 where
  pub has_paths : HasPaths design
  pub top_ports : (top : HCell) → IsTop design top → HaveOwnNames (λ port. port.name) top.ports
  pub instance_ports : (place : ℕ) (instance : HInst) (cell : HCell) → TopInstance design place instance cell → HaveOwnNames (λ port. port.name) cell.ports

-- the top has no instances but leaves
abbrev pub HasLeavesAlone : Design → Type 0
HasLeavesAlone design = (place : ℕ) (instance : HInst) (cell : HCell) → TopInstance design place instance cell → IsLeaf cell
