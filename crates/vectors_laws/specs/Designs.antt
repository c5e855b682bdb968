-- The designs of generated files.
use Rattle.std.specs.Prelude.{ℕ, zero, suc, Bool, cond, List, [], ◌∷◌, None, map, codes}
use Rattle.std.specs.List.{range_with_len}
use Rattle.nl_base.specs.declared.value.Dir.{Dir}
use Rattle.nl_base.specs.declared.value.Dir.TheVariants.{Input, Output}
use Rattle.net_hier.specs.declared.cells.HCell.{HCell}
use Rattle.net_hier.specs.declared.cells.HInst.{HInst}
use Rattle.net_hier.specs.declared.cells.HNet.{HNet}
use Rattle.net_hier.specs.declared.cells.HPort.{HPort}
use Rattle.net_hier.specs.declared.nodes.Join.{Join}
use Rattle.net_hier.specs.declared.nodes.Node.{Node}
use Rattle.net_hier.specs.declared.nodes.Node.TheVariants.{Net, Pin, Port}
use Rattle.vectors.specs.Cells.{cell_ident}
use Rattle.vectors.specs.Numbers.{is_swapped}

-- a scalar port, an instance of the cell of a number, and a net, without properties
abbrev pub scalar : List ℕ → Dir → HPort
scalar name dir = record { name = name; range = None; dir = dir; props = [] }

abbrev pub instance_of : List ℕ → ℕ → HInst
instance_of name below = record { name = name; cell = below; props = [] }

abbrev pub net_of : List ℕ → HNet
net_of name = record { name = name; props = [] }

-- the ports `i` and `o`
abbrev pub both_ports : List HPort
both_ports = scalar (codes "i") Input ∷ (scalar (codes "o") Output ∷ [])

-- a net of a number is joined to a node
abbrev pub joined : ℕ → Node → Join
joined net node = record { a = Net net; b = node }

-- what three nets join that lead from the port of number 0 through the one instance and then the other to the port of number 1
abbrev pub joins_through : ℕ → ℕ → List Join
joins_through one other =
    joined 0 (Port 0 0) ∷ (joined 0 (Pin one 0 0) ∷ (joined 1 (Pin one 1 0) ∷ (joined 1 (Pin other 0 0) ∷ (joined 2 (Pin other 1 0) ∷ (joined 2 (Port 1 0) ∷ [])))))

-- the same in a cell that is swapped, or is not
abbrev pub joins_of : Bool → List Join
joins_of swapped = cond swapped (joins_through 1 0) (joins_through 0 1)

-- the first cell of the design, and one above the cell of a number
abbrev pub first_cell : HCell
first_cell = record { name = cell_ident 0; ports = both_ports; instances = []; nets = []; joins = []; props = [] }

abbrev pub cell_above : Bool → ℕ → HCell
cell_above swapped below = record {
  name = cell_ident (suc below);
  ports = both_ports;
  instances = instance_of (codes "a") below ∷ (instance_of (codes "b") below ∷ []);
  nets = net_of (codes "i") ∷ (net_of (codes "m") ∷ (net_of (codes "o") ∷ []));
  joins = joins_of swapped;
  props = [];
}

-- the cell of a number
abbrev pub design_cell : ℕ → ℕ → HCell
design_cell seed zero = first_cell
design_cell seed (suc below) = cell_above (is_swapped seed (suc below)) below

-- so many cells
abbrev pub design_cells : ℕ → ℕ → List HCell
design_cells seed count = map (design_cell seed) (range_with_len 0 count)
