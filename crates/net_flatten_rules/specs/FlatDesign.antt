-- A flattened design: the cells of the leaves below the top, and the top with these leaves as its instances.
use Rattle.std.specs.Prelude.{◌≡◌, ℕ, suc, ◌==◌, List, [], ◌∷◌, ◌++◌, Bool, not, if◌then◌else◌, nat_le, codes, decimal, filter, length, map, slice_get, slice_index_or, Option, Some, None}
use Rattle.std.specs.List.{list_any, range_with_len}
use Rattle.std.specs.Option.{option_map_or}
use Rattle.net_hier.specs.Constants.{ConstantNames}
use Rattle.net_hier.specs.Design.{Design}
use Rattle.net_hier.specs.Paths.{Path}
use Rattle.net_hier.specs.declared.cells.HCell.{HCell}
use Rattle.net_hier.specs.declared.cells.HInst.{HInst}
use Rattle.net_hier.specs.declared.cells.HNet.{HNet}
use Rattle.net_hier.specs.declared.cells.HProp.{HProp}
use Rattle.net_hier.specs.declared.nodes.Join.{Join}
use Rattle.net_hier.specs.declared.nodes.Node.{Node}
use Rattle.net_hier.specs.declared.nodes.Node.TheVariants.{Net, Port as PortNode, Pin as PinNode, Zero as ZeroNode, One as OneNode}
use Rattle.flat_numbers.specs.declared.spots.Spot.{Spot}
use Rattle.flat_classes.specs.Groups.{places_of}
use Rattle.flat_classes.specs.Terminals.{AreFlatClasses, FlatValue}
use Rattle.flat_classes.specs.declared.flat.Terminal.{Terminal}
use Rattle.flat_classes.specs.declared.flat.Terminal.TheVariants.{Port, Pin, Zero, One}
use Rattle.flat_classes.specs.Ways.{ArePaths}
use Rattle.net_flatten_rules.specs.Joined.{instance_at, name_at}

-- the leaves below the top, whose spot has the number 0
abbrev pub inner : List ℕ → List ℕ
inner leaves = filter (λ leaf. not (leaf == 0)) leaves

-- the number of the cell at a spot
abbrev pub cell_at : List Spot → ℕ → ℕ
cell_at spots number = option_map_or (λ spot. spot.cell) (slice_get spots number) 0

-- whether the cell of this number stands at one of the spots
abbrev pub stands_at : List Spot → List ℕ → ℕ → Bool
stands_at spots leaves number = list_any (λ leaf. cell_at spots leaf == number) leaves

-- the numbers of the cells at the spots, in the order of the design
abbrev pub leaf_cells : List ℕ → List Spot → List ℕ → List ℕ
leaf_cells order spots leaves = filter (stands_at spots leaves) order

-- the place of a number in a list
abbrev pub place_in : List ℕ → ℕ → ℕ
place_in [] number = 0
place_in (first ∷ rest) number = if first == number then 0 else suc (place_in rest number)

-- a cell with its name, ports and properties alone
abbrev pub stub : HCell → HCell
stub cell = record { name = cell.name; ports = cell.ports; instances = []; nets = []; joins = []; props = cell.props }

abbrev pub no_cell : HCell
no_cell = record { name = []; ports = []; instances = []; nets = []; joins = []; props = [] }

-- the cell of this number, or an empty one where there is none
abbrev pub cell_or_none : List HCell → ℕ → HCell
cell_or_none cells number = slice_index_or cells number no_cell

abbrev pub props_of : Option HInst → List HProp
props_of None = []
props_of (Some instance) = instance.props

-- the instance for a leaf: under its joined name, of its cell, with the properties of the last instance of its path
abbrev pub leaf_instance : List HCell → List Spot → List Path → List ℕ → ℕ → HInst
leaf_instance cells spots paths numbers leaf = record {
  name = name_at paths leaf;
  cell = place_in numbers (cell_at spots leaf);
  props = props_of (instance_at cells spots leaf);
}

-- the groups of two or more terminals, in order
abbrev pub wired : FlatValue → List (List ℕ)
wired flat = filter (λ members. nat_le 2 (length members)) (map (places_of flat.groups) (range_with_len 0 flat.count))

-- the net of this number, without properties
abbrev pub numbered_net : ℕ → HNet
numbered_net number = record { name = codes "n" ++ decimal number; props = [] }

-- a terminal as a node of the flattened top
abbrev pub node_of : List ℕ → Terminal → Node
node_of leaves (Port port bit) = PortNode port bit
node_of leaves (Pin spot port bit) = PinNode (place_in leaves spot) port bit
node_of leaves Zero = ZeroNode
node_of leaves One = OneNode

-- the join of a net and the terminal at a place
abbrev pub join_at : List Terminal → List ℕ → ℕ → ℕ → Join
join_at terminals leaves net place = record { a = Net net; b = node_of leaves (slice_index_or terminals place Zero) }

-- the joins of the nets from this number on, each with the members of its group
abbrev pub joins_from : List Terminal → List ℕ → ℕ → List (List ℕ) → List Join
joins_from terminals leaves net [] = []
joins_from terminals leaves net (members ∷ rest) = map (join_at terminals leaves net) members ++ joins_from terminals leaves (suc net) rest

-- the top with the leaves as its instances and a net for each group of two or more terminals
abbrev pub flat_top : Design → List Path → FlatValue → HCell
flat_top design paths flat = let top = cell_or_none design.cells design.top in
    let leaves = inner flat.leaves in
    record {
      name = top.name;
      ports = top.ports;
      instances = map (leaf_instance design.cells flat.spots paths (leaf_cells design.order flat.spots leaves)) leaves;
      nets = map numbered_net (range_with_len 0 (length (wired flat)));
      joins = joins_from flat.terminals leaves 0 (wired flat);
      props = top.props;
    }

-- the cells at the leaves, and then the top
abbrev pub flat_cells : Design → List Path → FlatValue → List HCell
flat_cells design paths flat = map (λ number. stub (cell_or_none design.cells number)) (leaf_cells design.order flat.spots (inner flat.leaves)) ++ flat_top design paths flat ∷ []

-- the cells, the top and the properties are those of the flattened design
pub record IsFlattened (names : ConstantNames) (design : Design) (cells : List HCell) (top : ℕ) (props : List HProp) : Type 0 where
  pub flat : FlatValue
  pub are_classes : AreFlatClasses names design flat
  pub paths : List Path
  pub are_paths : ArePaths design.cells flat.spots paths
  pub same_cells : cells ≡ flat_cells design paths flat
  pub top_is_last : suc top ≡ length cells
  pub same_props : props ≡ design.props
