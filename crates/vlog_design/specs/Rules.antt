-- The rules of a Verilog design. Each is the list, in file order, of the objects that break it; the first object of the first rule that has one is answered.
-- Names are declared once in each module (IEEE 1364-2005, 4.11), and the two sides of a connection and of an assignment have one width.
use Rattle.std.specs.Prelude.{ℕ, Bool, true, false, not, ◌&&◌, ◌||◌, nat_eq, nat_lt, List, [], ◌∷◌, ◌++◌, map, filter, find, flat_map, take, length, bytes_eq, is_none, Option, Some, None, if◌then◌else◌}
use Rattle.std.specs.Option.{option_map_or}
use Rattle.nl_base.specs.Ranges.{Bounds}
use Rattle.nl_base.specs.declared.rule.Refusal.{Refusal}
use Rattle.nl_base.specs.declared.rule.Rule.{Rule}
use Rattle.nl_base.specs.declared.rule.Rule.TheVariants.{G1, G2, G3, G4, G5, G6, G7, G8, G9, G10, G11, G12, G13, G14, G15, G16, G17}
use Rattle.vlog_design.specs.Design.{def_sets, pairings}
use Rattle.vlog_design.specs.Names.{Name, Declaration, Signal, Use, clashing, declarations, has_name, instance_names, instance_statements, module_uses, net_decls, port_decl, port_names, port_range, signal_named, signals}
use Rattle.net_hier.specs.Cells.{width_of}
use Rattle.vlog_design.specs.Ranges.{selected}
use Rattle.std.specs.Ordering.{int_eq}
use Rattle.vlog_design.specs.Reach.{module_named, reached, reaches}
use Rattle.vlog_design.specs.declared.signals.Kind.{Kind}
use Rattle.vlog_design.specs.declared.signals.Kind.TheVariants.{InHeader, Direction, NetDeclaration, Instance, Parameter}
use Rattle.vlog_values.specs.declared.statement.Conns.{Conns}
use Rattle.vlog_values.specs.declared.statement.Conns.TheVariants.{Named, Order}
use Rattle.vlog_values.specs.declared.module.Header.{Header}
use Rattle.vlog_values.specs.declared.module.Header.TheVariants.{Names, Decls}
use Rattle.vlog_values.specs.declared.statement.Instances.{Instances}
use Rattle.vlog_values.specs.declared.module.Module.{Module}
use Rattle.vlog_values.specs.declared.statement.VInst.{VInst}
use Rattle.vlog_values.specs.declared.module.VlogFile.{VlogFile}

-- the first element
abbrev pub first_of : {A : Type 0} → List A → Option A
first_of [] = None
first_of (x ∷ xs) = Some x

-- the refusal of an object by its names
abbrev pub refused : Rule → Name → List Name → Refusal
refused rule cell names = record { rule = rule; cell = cell; names = names }

-- an object is here the list of its names
abbrev pub Objects : Type 0
Objects = List (List Name)

-- objects of one name each
abbrev pub each_alone : List Name → Objects
each_alone = map (λ name. name ∷ [])

-- a declaration of a port or net
abbrev pub is_signal : Kind → Bool
is_signal InHeader = true
is_signal Direction = true
is_signal NetDeclaration = true
is_signal Instance = false
is_signal Parameter = false

-- the same kind of declaration
abbrev pub same_kind : Kind → Kind → Bool
same_kind InHeader InHeader = true
same_kind Direction Direction = true
same_kind NetDeclaration NetDeclaration = true
same_kind Instance Instance = true
same_kind Parameter Parameter = true
same_kind _ _ = false

-- the same kind of declaration of the same name
abbrev pub same_declaration : Declaration → Declaration → Bool
same_declaration one other = same_kind one.kind other.kind && bytes_eq one.name other.name

-- two declarations that may not stand together (4.11)
abbrev pub clash : Declaration → Declaration → Bool
clash one other = bytes_eq one.name other.name && (same_kind one.kind other.kind || not (is_signal one.kind && is_signal other.kind))

-- a second header port, direction, net, instance or parameter of a name; a name that is two of port or net, instance, parameter
unfoldable pub declared_twice : Module → Objects
declared_twice m = map (λ declaration. declaration.name ∷ []) (clashing clash [] (declarations m))

-- the names to which items give a direction
abbrev pub inner_directions : Module → List Name
inner_directions m = flat_map (λ decl. decl.names) (flat_map port_decl m.items)

-- those of a header: listed ports without direction come first, at the header
abbrev pub bad_directions : Module → Header → List Name
bad_directions m (Names names) = filter (λ name. not (has_name (inner_directions m) name)) names ++ filter (λ name. not (has_name names name)) (inner_directions m)
bad_directions m (Decls decls) = inner_directions m

-- a listed port without direction, a direction of no listed port, a direction beside a header that declares its ports (12.3.3)
unfoldable pub without_direction : Module → Objects
without_direction m = each_alone (bad_directions m m.header)

-- names in expressions that are no port or net
unfoldable pub unknown_names : Module → Objects
unknown_names m = map (λ u. u.name ∷ []) (filter (λ u. is_none (signal_named (signals m) u.name)) (module_uses m))

-- a select on a scalar, outside the range, or against its direction (5.2.1)
abbrev pub bad_select_in : List Signal → Use → Bool
bad_select_in names u = option_map_or (λ slot. is_none (selected slot.range u.select)) (signal_named names u.name) false

-- selects that mean no bits
unfoldable pub bad_selects : Module → Objects
bad_selects m = map (λ u. u.name ∷ []) (filter (bad_select_in (signals m)) (module_uses m))

-- connections and assignments of two widths, where no unsized literal stands in them
unfoldable pub unequal_widths : List Module → Module → Objects
unequal_widths modules m = map (λ pairing. pairing.names) (filter (λ pairing. not (nat_eq pairing.left_width pairing.right_width) && not pairing.is_loose) (pairings modules m))

-- connections and assignments with an unsized literal
unfoldable pub unsized : List Module → Module → Objects
unsized modules m = map (λ pairing. pairing.names) (filter (λ pairing. pairing.is_loose) (pairings modules m))

-- what instances connect and set

-- the objects of the instances of a statement, by the name of their module
abbrev pub in_statement : (Name → VInst → Objects) → Instances → Objects
in_statement objects statement = flat_map (objects statement.module) statement.insts

-- the objects of each statement of a module
abbrev pub each_statement : (Instances → Objects) → Module → Objects
each_statement objects m = flat_map objects (instance_statements m)

-- the ports of the module of this name
unfoldable pub ports_named : List Module → Name → List Name
ports_named modules name = option_map_or port_names (module_named modules name) []

-- the ports that connections name, with repeats
abbrev pub conn_names : Conns → List Name
conn_names (Named conns) = map (λ conn. conn.port) conns
conn_names (Order values) = []

-- how many connections in order there are, open ones among them
abbrev pub conn_count : Conns → ℕ
conn_count (Named conns) = 0
conn_count (Order values) = length values

-- the connections of an instance to no port of its module
abbrev pub unknown_ports_in : List Module → Name → VInst → Objects
unknown_ports_in modules of instance = map (λ port. instance.name ∷ port ∷ []) (filter (λ port. not (has_name (ports_named modules of) port)) (conn_names instance.conns))

-- named connections to no port (12.3.6)
unfoldable pub unknown_ports : List Module → Module → Objects
unknown_ports modules = each_statement (in_statement (unknown_ports_in modules))

-- the ports that an instance connects by name again
abbrev pub ports_twice_in : Name → VInst → Objects
ports_twice_in of instance = map (λ port. instance.name ∷ port ∷ []) (clashing bytes_eq [] (conn_names instance.conns))

-- ports connected by name twice
unfoldable pub ports_twice : Module → Objects
ports_twice = each_statement (in_statement ports_twice_in)

-- an instance with more connections in order than its module has ports
abbrev pub extra_connections : List Module → Name → VInst → Objects
extra_connections modules of instance = if nat_lt (length (ports_named modules of)) (conn_count instance.conns) then (instance.name ∷ []) ∷ [] else []

-- more connections in order than ports (12.3.5)
unfoldable pub too_many_connections : List Module → Module → Objects
too_many_connections modules = each_statement (in_statement (extra_connections modules))

-- the name of a statement's first instance
abbrev pub first_instance : Instances → List Name
first_instance statement = map (λ instance. instance.name) (take 1 statement.insts)

-- the parameters that a statement gives again
abbrev pub params_twice_in : Instances → Objects
params_twice_in statement = map (λ name. first_instance statement ++ name ∷ []) (clashing bytes_eq [] (map (λ set. set.name) statement.params))

-- parameters given twice on one statement (12.2.2.2)
unfoldable pub params_twice : Module → Objects
params_twice = each_statement params_twice_in

-- a statement whose module is not there
abbrev pub unknown_module_in : List Module → Instances → Objects
unknown_module_in modules statement = if is_none (module_named modules statement.module) then (first_instance statement ++ statement.module ∷ []) ∷ [] else []

-- instances of modules that are not there
unfoldable pub unknown_modules : List Module → Module → Objects
unknown_modules modules = each_statement (unknown_module_in modules)

-- ports and nets of more than 65,536 bits
unfoldable pub too_wide : Module → Objects
too_wide m = map (λ signal. signal.name ∷ []) (filter (λ signal. nat_lt 65536 (width_of signal.slot.range)) (signals m))

-- the same two bounds, or no range
abbrev pub same_range : Option Bounds → Option Bounds → Bool
same_range None None = true
same_range None (Some range) = false
same_range (Some range) None = false
same_range (Some one) (Some other) = int_eq one.left other.left && int_eq one.right other.right

-- net declarations of a port with another range, or one with and one without (12.3.3)
unfoldable pub other_ranges : Module → Objects
other_ranges m = flat_map (λ decl. each_alone (filter (λ name. has_name (port_names m) name && not (same_range decl.range (port_range m name))) decl.names)) (net_decls m)

-- the instances of a statement with the name of their module
abbrev pub statement_names : Instances → List (Name × Name)
statement_names statement = map (λ instance. (instance.name, statement.module)) statement.insts

-- the first instance through which a module reaches itself (12.1)
unfoldable pub recursions : List Module → Module → Objects
recursions modules m = option_map_or (λ instance. (instance.0 ∷ []) ∷ []) (find (λ instance. reaches modules instance.1 m.name) (flat_map statement_names (instance_statements m))) []

-- values for parameters of instances that the module has not (12.2.1)
unfoldable pub unknown_instances : Module → Objects
unknown_instances m = map (λ set. set.instance ∷ set.name ∷ []) (filter (λ set. not (has_name (instance_names m) set.instance)) (def_sets m))

-- a rule of modules
abbrev pub in_modules : Rule → (Module → Objects) → List Module → List Refusal
in_modules rule objects modules = flat_map (λ m. map (refused rule m.name) (objects m)) modules

-- no module has the top's name
abbrev pub no_top : VlogFile → Name → List Refusal
no_top file top = if is_none (module_named file.modules top) then refused G1 [] (top ∷ []) ∷ [] else []

-- a second module of one name
abbrev pub modules_twice : VlogFile → List Refusal
modules_twice file = map (λ name. refused G2 [] (name ∷ [])) (clashing bytes_eq [] (map (λ m. m.name) file.modules))

-- the refusals by all rules, the lowest rule first
unfoldable pub refusals : VlogFile → Name → List Refusal
refusals file top = let modules = reached file top in
    no_top file top
    ++ modules_twice file
    ++ in_modules G3 (unknown_modules file.modules) modules
    ++ in_modules G4 declared_twice modules
    ++ in_modules G5 without_direction modules
    ++ in_modules G6 unknown_names modules
    ++ in_modules G7 bad_selects modules
    ++ in_modules G8 (unequal_widths modules) modules
    ++ in_modules G9 (unknown_ports modules) modules
    ++ in_modules G10 ports_twice modules
    ++ in_modules G11 (too_many_connections modules) modules
    ++ in_modules G12 too_wide modules
    ++ in_modules G13 (unsized modules) modules
    ++ in_modules G14 params_twice modules
    ++ in_modules G15 other_ranges modules
    ++ in_modules G16 (recursions modules) modules
    ++ in_modules G17 unknown_instances modules

-- the first object of the least rule that is broken
unfoldable pub first_G : VlogFile → Name → Option Refusal
first_G file top = first_of (refusals file top)
