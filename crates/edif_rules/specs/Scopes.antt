-- Where the references in the nets of a cell lead, by the lists in which they are looked up.
use Rattle.std.specs.Prelude.{◌≡◌, ℕ, List, [], ◌∷◌, Option, Some, None, option_map, slice_get, get_or, ℤ}
use Rattle.std.specs.Borrow.{Bor}
use Rattle.std.specs.Option.{option_and_then}
use Rattle.edif_lookup.specs.declared.definitions.Meaning.{Meaning}
use Rattle.edif_lookup.specs.declared.definitions.Meaning.TheVariants as meanings
use Rattle.edif_values.specs.Names.{original}
use Rattle.edif_values.specs.declared.instance.Instance.{Instance}
use Rattle.edif_values.specs.declared.net.PortRef.{PortRef}
use Rattle.edif_values.specs.declared.port.Port.{Port}
use Rattle.net_hier.specs.declared.nodes.Node.{Node}
use Rattle.edif_design.specs.CellRules.{bit_of, size_of}
use Rattle.edif_design.specs.Parts.{instances, ports}
use Rattle.edif_design.specs.References.{LinkedCell}
use Rattle.edif_rules.specs.Idents.{instances_meaning, ports_meaning}
use Rattle.edif_rules.specs.Spots.{node_of_bit}
use Rattle.edif_rules.specs.declared.found.Target.{Target}
use Rattle.edif_rules.specs.declared.found.Target.TheVariants as founds
use Rattle.edif_rules.specs.declared.found.CellScope.{CellScope}

-- the name, where there is one
abbrev pub present : Option (Bor (List ℕ)) → List (List ℕ)
present None = []
present (Some name) = name.now ∷ []

-- the cell's own ports, its instances, the numbers of the cells that these are of, and the ports of each cell of the file
pub record ScopeLists : Type 0 where
  pub own : List Port
  pub instances : List Instance
  pub below : List (Option ℕ)
  pub port_tables : List (List Port)

abbrev pub lists_of : CellScope → ScopeLists
lists_of scope = record { own = scope.own.now; instances = scope.instances.now; below = scope.below.now; port_tables = scope.port_tables.now }

-- the ports of the cell that an instance is of
abbrev pub inner_ports : ScopeLists → ℕ → Option (List Port)
inner_ports lists instance = option_and_then (slice_get lists.port_tables) (get_or lists.below instance None)

-- where a portRef leads
abbrev pub port_found : Option ℕ → Meaning → Target
port_found instance meanings.Nothing = founds.NoPort instance
port_found instance (meanings.One port) = founds.Port instance port
port_found instance meanings.Several = founds.SeveralPorts

abbrev pub found_in : Option ℕ → List Port → List ℕ → Target
found_in instance ports spelling = port_found instance (ports_meaning ports spelling)

-- where a portRef leads in the cell of an instance
abbrev pub found_among : ℕ → List ℕ → Option (List Port) → Target
found_among instance spelling None = founds.NoCell
found_among instance spelling (Some ports) = found_in (Some instance) ports spelling

abbrev pub found_inner : ScopeLists → ℕ → List ℕ → Target
found_inner lists instance spelling = found_among instance spelling (inner_ports lists instance)

-- where a portRef leads, by what its instanceRef means
abbrev pub found_by : ScopeLists → List ℕ → Meaning → Target
found_by lists spelling meanings.Nothing = founds.NoInstance
found_by lists spelling (meanings.One instance) = found_inner lists instance spelling
found_by lists spelling meanings.Several = founds.SeveralInstances

-- where a portRef leads, with an instanceRef or without one
abbrev pub found_with : ScopeLists → List ℕ → Option (List ℕ) → Target
found_with lists spelling None = found_in None lists.own spelling
found_with lists spelling (Some instance) = found_by lists spelling (instances_meaning lists.instances instance)

-- where a reference leads
abbrev pub found_of : ScopeLists → PortRef → Target
found_of lists ref = found_with lists ref.port ref.instance

-- the port of this number
abbrev pub port_at : ScopeLists → Option ℕ → ℕ → Option Port
port_at lists None port = slice_get lists.own port
port_at lists (Some instance) port = option_and_then (λ ports. slice_get ports port) (inner_ports lists instance)

-- the original name of the instance of this number
abbrev pub name_of : Option Instance → List (List ℕ)
name_of None = []
name_of (Some instance) = original instance.name ∷ []

abbrev pub instance_names : List Instance → Option ℕ → List (List ℕ)
instance_names instances None = []
instance_names instances (Some instance) = name_of (slice_get instances instance)

-- the bit that a reference means
abbrev pub node_found : ScopeLists → Target → Option ℤ → Option Node
node_found lists (founds.Port instance port) member = option_and_then (λ meant. option_map (node_of_bit instance port) (bit_of (size_of meant.name) member)) (port_at lists instance port)
node_found lists founds.NoInstance member = None
node_found lists founds.SeveralInstances member = None
node_found lists founds.NoCell member = None
node_found lists (founds.NoPort instance) member = None
node_found lists founds.SeveralPorts member = None

-- the lists are those of the cell and of the cells that its instances are of
pub record IsScope (linked : LinkedCell) (lists : ScopeLists) : Type 0 where
  pub own_are : lists.own ≡ ports linked.cell
  pub instances_are : lists.instances ≡ instances linked.cell
  pub inner_are : (instance : ℕ) → inner_ports lists instance ≡ option_map (λ inner. ports inner.1) (get_or linked.below instance None)
