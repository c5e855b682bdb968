-- The rules of flattened designs, as lists of the objects that break them.
use Rattle.std.specs.Prelude.{◌≡◌, ℕ, List, [], ◌∷◌, ◌++◌, Bool, if◌then◌else◌, nat_lt, bytes_eq, codes, filter, length, map, Option, Some, None, option_map}
use Rattle.std.specs.List.{flat_map, list_any}
use Rattle.net_hier.specs.Design.{Design, top_name}
use Rattle.net_hier.specs.Paths.{Path}
use Rattle.net_hier.specs.declared.cells.HCell.{HCell}
use Rattle.net_hier.specs.declared.cells.HInst.{HInst}
use Rattle.net_hier.specs.declared.cells.HPort.{HPort}
use Rattle.net_hier.specs.declared.cells.HProp.{HProp}
use Rattle.flat_classes.specs.Terminals.{FlatValue}
use Rattle.net_flatten_rules.specs.FlatDesign.{flat_cells, inner}
use Rattle.net_flatten_rules.specs.Joined.{name_at}
use Rattle.net_flatten_rules.specs.declared.long.Long.{Long}
use Rattle.net_flatten_rules.specs.declared.refusal.Broken.{Broken}
use Rattle.net_flatten_rules.specs.declared.refusal.FlattenRule.{FlattenRule}
use Rattle.net_flatten_rules.specs.declared.refusal.FlattenRule.TheVariants.{F1, F2}

-- the first element, where there is one
abbrev pub first_of : {A : Type 0} → List A → Option A
first_of [] = None
first_of (x ∷ xs) = Some x

-- the refusal of an object of the cell by its names
abbrev pub refused : FlattenRule → List ℕ → List (List ℕ) → Broken
refused rule cell names = record { rule = rule; cell = cell; names = names }

-- the names that stand among those before
abbrev pub repeated : List (List ℕ) → List (List ℕ) → List (List ℕ)
repeated before [] = []
repeated before (name ∷ names) = if list_any (bytes_eq name) before then name ∷ repeated (before ++ name ∷ []) names else repeated (before ++ name ∷ []) names

-- a name of more than 1,024 bytes
abbrev pub is_long : List ℕ → Bool
is_long name = nat_lt 1024 (length name)

-- an object of this kind, where its name is too long
abbrev pub long : List ℕ → List ℕ → List (List (List ℕ))
long kind name = if is_long name then (kind ∷ name ∷ []) ∷ [] else []

-- the properties whose names are too long
abbrev pub long_props : List HProp → List (List (List ℕ))
long_props props = flat_map (λ prop. long (codes "property") prop.name) props

-- an object with properties
abbrev pub long_object : List ℕ → List ℕ → List HProp → List (List (List ℕ))
long_object kind name props = long kind name ++ long_props props

-- ports, each with its properties
abbrev pub long_ports : List HPort → List (List (List ℕ))
long_ports ports = flat_map (λ port. long_object (codes "port") port.name port.props) ports

-- instances, each with its properties
abbrev pub long_instances : List HInst → List (List (List ℕ))
long_instances instances = flat_map (λ instance. long_object (codes "instance") instance.name instance.props) instances

-- the names of a cell, of its properties, and of its ports with their properties
abbrev pub long_stub : HCell → List (List (List ℕ))
long_stub cell = long_object (codes "cell") cell.name cell.props ++ long_ports cell.ports

-- the names of a cell other than its nets' that are too long
abbrev pub long_names : HCell → List (List (List ℕ))
long_names cell = long_stub cell ++ long_instances cell.instances

-- the refusals of a cell's names
abbrev pub long_in_cell : HCell → List Broken
long_in_cell cell = map (refused F2 cell.name) (long_names cell)

-- a joined name that a leaf before has
abbrev pub names_twice : Design → List Path → FlatValue → List Broken
names_twice design paths flat = map (λ name. refused F1 (top_name design.cells design.top) (name ∷ [])) (repeated [] (map (name_at paths) (inner flat.leaves)))

-- a property of the design whose name is too long
abbrev pub long_in_design : Design → List Broken
long_in_design design = map (λ prop. refused F2 (top_name design.cells design.top) (prop.name ∷ [])) (filter (λ prop. is_long prop.name) design.props)

-- the refusals by both rules, the lower rule first
abbrev pub refusals : Design → List Path → FlatValue → List Broken
refusals design paths flat = names_twice design paths flat ++ (flat_map long_in_cell (flat_cells design paths flat) ++ long_in_design design)

-- the kind and the name of an object whose name is too long
abbrev pub object_of : Long → List (List ℕ)
object_of found = found.kind.now ∷ found.name.now ∷ []

-- it is the first of the objects
abbrev pub IsFirst : List (List (List ℕ)) → Option Long → Type 0
IsFirst objects found = option_map object_of found ≡ first_of objects
