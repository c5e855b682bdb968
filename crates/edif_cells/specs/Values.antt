-- The parts of a cell of a design, as they are made.
use Rattle.std.specs.Prelude.{◌≡◌, ℕ, Bool, false, List, map, Option, Some, None, get_or, nat_lt, if◌then◌else◌}
use Rattle.std.specs.Option.{option_and_then}
use Rattle.std.specs.List.{filter_map, list_any}
use Rattle.edif_values.specs.Names.{original}
use Rattle.edif_values.specs.declared.instance.Instance.{Instance}
use Rattle.edif_values.specs.declared.net.PortRef.{PortRef}
use Rattle.edif_values.specs.declared.port.Port.{Port}
use Rattle.net_hier.specs.declared.cells.HInst.{HInst}
use Rattle.net_hier.specs.declared.nodes.Join.{Join}
use Rattle.net_hier.specs.declared.nodes.Node.{Node}
use Rattle.net_hier.specs.declared.nodes.Node.TheVariants as nodes
use Rattle.edif_design.specs.CellRules.{is_bad_size, size_of}
use Rattle.edif_design.specs.Design.{instance_property, number_in}
use Rattle.edif_rules.specs.RefRefusals.{ref_node}
use Rattle.edif_rules.specs.Scopes.{ScopeLists, inner_ports}

-- an array port of a size outside 1 to 65,536
abbrev pub is_bad_port : Port → Bool
is_bad_port port = is_bad_size (size_of port.name)

-- an instance under its original name, of the cell of this number
abbrev pub instance_of : ℕ → Instance → HInst
instance_of cell instance = record { name = original instance.name; cell = cell; props = filter_map instance_property instance.items }

-- a number of one of so many cells
abbrev pub number_within : ℕ → ℕ → Option ℕ
number_within cells number = if nat_lt number cells then Some number else None

-- the instance of this number, by the numbers of the cells in the design and of those that instances are of
abbrev pub instance_at : List ℕ → List (Option ℕ) → ℕ → (ℕ × Instance) → HInst
instance_at numbers below cells instance = instance_of (number_in numbers (option_and_then (number_within cells) (get_or below instance.0 None))) instance.1

-- the join of a net and a bit
abbrev pub join_of : ℕ → Node → Join
join_of net bit = record { a = nodes.Net net; b = bit }

-- the joins of the net of this number
abbrev pub joins_of : ScopeLists → ℕ → List PortRef → List Join
joins_of lists net joined = map (join_of net) (filter_map (ref_node lists) joined)

-- no array port of the cell or of a cell that an instance is of has a size outside 1 to 65,536
pub record HasGoodSizes (lists : ScopeLists) : Type 0 where
  pub own_good : list_any is_bad_port lists.own ≡ false
  pub inner_good : (instance : ℕ) (inner : List Port) → inner_ports lists instance ≡ Some inner → list_any is_bad_port inner ≡ false
