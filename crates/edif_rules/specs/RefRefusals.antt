-- What the references in the nets of a cell break, by the lists in which they are looked up.
use Rattle.std.specs.Prelude.{ℕ, Bool, true, List, [], ◌∷◌, ◌++◌, Option, Some, None, ℤ}
use Rattle.std.specs.Fmt.{signed_decimal}
use Rattle.std.specs.List.{list_any}
use Rattle.edif_lookup.specs.Refusals.{broken, if_some}
use Rattle.nl_base.specs.declared.rule.Refusal.{Refusal}
use Rattle.nl_base.specs.declared.rule.Rule.TheVariants.{E6, E7, E8, E9, E10, E11}
use Rattle.edif_values.specs.Names.{port_original}
use Rattle.edif_values.specs.declared.net.PortRef.{PortRef}
use Rattle.edif_values.specs.declared.port.Port.{Port}
use Rattle.net_hier.specs.declared.nodes.Node.{Node}
use Rattle.edif_design.specs.CellRules.{bit_of, index_names, member_refusals, port_name, same_node, size_of}
use Rattle.edif_rules.specs.Scopes.{ScopeLists, found_of, instance_names, node_found, port_at}
use Rattle.edif_rules.specs.Spots.{node_of_bit}
use Rattle.edif_rules.specs.declared.found.Target.{Target}
use Rattle.edif_rules.specs.declared.found.Target.TheVariants as founds

-- the names of a net, of an instance where there is one, and of a port
abbrev pub names_of : ScopeLists → List ℕ → Option ℕ → List ℕ → List (List ℕ)
names_of lists net instance port = net ∷ (instance_names lists.instances instance ++ port ∷ [])

-- E11 of a bit, with these names
abbrev pub taken_refusals : List ℕ → List (List ℕ) → Port → List Node → (ℕ → Node) → ℕ → List Refusal
taken_refusals cell names meant taken node bit = broken (list_any (same_node (node bit)) taken) E11 cell (names ++ index_names (port_original meant.name).1 bit)

-- E9, E10 and E11 of a reference to a port, with these names
abbrev pub bit_refusals_by : List ℕ → List (List ℕ) → Port → List Node → (ℕ → Node) → Option ℤ → List Refusal
bit_refusals_by cell names meant taken node member =
    member_refusals cell names (size_of meant.name) member ++ if_some (bit_of (size_of meant.name) member) (taken_refusals cell names meant taken node)

-- E9, E10 and E11 of a reference to the port of this number, where it is there
abbrev pub port_refusals_at : ScopeLists → List ℕ → List ℕ → List Node → Option ℕ → ℕ → Option ℤ → Option Port → List Refusal
port_refusals_at lists cell net taken instance port member None = []
port_refusals_at lists cell net taken instance port member (Some meant) = bit_refusals_by cell (names_of lists net instance (port_name meant)) meant taken (node_of_bit instance port) member

-- E6 to E11 of a reference that leads here
unfoldable pub found_refusals : ScopeLists → List ℕ → List ℕ → List Node → PortRef → Target → List Refusal
found_refusals lists cell net taken ref (founds.Port instance port) = port_refusals_at lists cell net taken instance port ref.member (port_at lists instance port)
found_refusals lists cell net taken ref founds.NoInstance = if_some ref.instance (λ spelling. broken true E7 cell (net ∷ (spelling ∷ [])))
found_refusals lists cell net taken ref founds.SeveralInstances = if_some ref.instance (λ spelling. broken true E6 cell (spelling ∷ []))
found_refusals lists cell net taken ref founds.NoCell = []
found_refusals lists cell net taken ref (founds.NoPort instance) = broken true E8 cell (names_of lists net instance ref.port)
found_refusals lists cell net taken ref founds.SeveralPorts = broken true E6 cell (ref.port ∷ [])

-- E6 to E11 of a reference
abbrev pub ref_refusals_by : ScopeLists → List ℕ → List ℕ → List Node → PortRef → List Refusal
ref_refusals_by lists cell net taken ref = found_refusals lists cell net taken ref (found_of lists ref)

-- the bit that a reference means
abbrev pub ref_node : ScopeLists → PortRef → Option Node
ref_node lists ref = node_found lists (found_of lists ref) ref.member
