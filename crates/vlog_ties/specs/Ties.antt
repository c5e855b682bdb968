-- What is tied to what in a Verilog module, without its bits: pins and expressions, the sides of assignments, supply nets and constants
-- (IEEE 1364-2005, 4.6.6, 6.1 and 12.3).
use Rattle.std.specs.Prelude.{⊤, ℕ, ◌+◌, ◌^◌, ◌<◌, Bool, false, not, ◌&&◌, nat_eq, List, [], ◌∷◌, ◌++◌, map, flat_map, sum_by, slice_get, codes, Option, Some, None}
use Rattle.std.specs.List.{range_with_len}
use Rattle.std.specs.Option.{option_map_or}
use Rattle.net_hier.specs.Cells.{width_of}
use Rattle.net_hier.specs.declared.nodes.Join.{Join}
use Rattle.net_hier.specs.declared.nodes.Node.{Node}
use Rattle.net_hier.specs.declared.nodes.Node.TheVariants.{Pin as PinNode}
use Rattle.nl_base.specs.Ranges.{Bounds}
use Rattle.nl_base.specs.declared.rule.Rule.{Rule}
use Rattle.nl_base.specs.declared.rule.Rule.TheVariants.{G8, G13}
use Rattle.vlog_design.specs.Design.{Connection, Pairing, connections, first_use, instance_count, joins_between, pairing_of_assign, slot_joins, supply_node}
use Rattle.vlog_design.specs.Exprs.{bits, has_loose, literals, live_width, width}
use Rattle.vlog_design.specs.Names.{Name, Signal, signal_named, signals}
use Rattle.vlog_design.specs.Reach.{module_named}
use Rattle.vlog_design.specs.Rules.{Objects, unequal_widths, unsized}
use Rattle.vlog_design.specs.declared.signals.SignalAt.{SignalAt}
use Rattle.vlog_design.specs.declared.signals.SignalAt.TheVariants.{AtPort, AtNet}
use Rattle.vlog_design.specs.declared.signals.Slot.{Slot}
use Rattle.vlog_rules.specs.declared.passes.ModuleScope.{ModuleScope}
use Rattle.vlog_values.specs.declared.expression.Expr.{Expr}
use Rattle.vlog_values.specs.declared.literal.Literal.{Literal}
use Rattle.vlog_values.specs.declared.module.ItemV.{ItemV}
use Rattle.vlog_values.specs.declared.module.ItemV.TheVariants.{Port as PortItem, Net as NetItem, Param as ParamItem, Assign as AssignItem, Instances as InstancesItem, Defparam as DefparamItem}
use Rattle.vlog_values.specs.declared.module.Module.{Module}
use Rattle.vlog_values.specs.declared.statement.Conns.{Conns}
use Rattle.vlog_values.specs.declared.statement.Conns.TheVariants.{Named, Order}
use Rattle.vlog_values.specs.declared.statement.VInst.{VInst}
use Rattle.vlog_ties.specs.declared.tie.Tie.{Tie}
use Rattle.vlog_ties.specs.declared.tie.Tie.TheVariants as ties
use Rattle.vlog_ties.specs.declared.rules.TieRule.{TieRule}
use Rattle.vlog_ties.specs.declared.rules.TieRule.TheVariants.{EqualWidths, SizedLiterals}

-- the modules of scopes
abbrev pub modules_in : List ModuleScope → List Module
modules_in = map (λ scope. scope.module.now)

-- a pin and its expression, by the name and the number of the instance, the name, the number and the width of the port; the two sides of
-- an assignment; or a supply net and its constant
pub data Tied : Type 0 where
  Pin : Name → ℕ → Name → ℕ → ℕ → Expr → Tied
  Assign : Expr → Expr → Tied
  Supply : Name → Node → Tied

-- what a tie of the code says
abbrev pub tied : Tie → Tied
tied (ties.Pin instance number port port_number size value) = Pin instance.now number port.now port_number size value.now
tied (ties.Assign left right) = Assign left.now right.now
tied (ties.Supply name constant) = Supply name.now constant

-- what ties of the code say
abbrev pub all_tied : List Tie → List Tied
all_tied = map tied

-- the bits of a pin beside those of its expression
abbrev pub pairing_of_pin : List Signal → Name → ℕ → Name → ℕ → ℕ → Expr → Pairing
pairing_of_pin names instance number port port_number size value = record {
  names = instance ∷ port ∷ [];
  left_width = size;
  right_width = width names value;
  live = live_width names value;
  left = map (λ bit. Some (PinNode number port_number bit)) (range_with_len 0 size);
  right = bits names value;
  is_loose = has_loose value;
}

-- the two sides that are joined bit by bit, where there are two
abbrev pub tied_pairings : List Signal → Tied → List Pairing
tied_pairings names (Pin instance number port port_number size value) = pairing_of_pin names instance number port port_number size value ∷ []
tied_pairings names (Assign left right) = pairing_of_assign names left right ∷ []
tied_pairings names (Supply name constant) = []

-- the joins of two sides
abbrev pub pairing_joins : Pairing → List Join
pairing_joins pairing = joins_between pairing.left pairing.right

-- the joins of what is tied
abbrev pub tied_joins : List Signal → Tied → List Join
tied_joins names (Pin instance number port port_number size value) = pairing_joins (pairing_of_pin names instance number port port_number size value)
tied_joins names (Assign left right) = pairing_joins (pairing_of_assign names left right)
tied_joins names (Supply name constant) = option_map_or (slot_joins constant) (signal_named names name) []

-- the two sides of a tie of the code
abbrev pub tie_pairings : List Signal → Tie → List Pairing
tie_pairings names tie = tied_pairings names (tied tie)

-- the joins of a tie of the code
abbrev pub tie_joins : List Signal → Tie → List Join
tie_joins names tie = tied_joins names (tied tie)

-- what connections tie, by the names of the module below

-- a connection to the port of this number; a net is no port
abbrev pub connection_at_place : Name → Option Bounds → Expr → SignalAt → List Connection
connection_at_place name range value (AtPort number) = record { number = number; port = name; range = range; value = value } ∷ []
connection_at_place name range value (AtNet first) = []

-- a connection to what a name stands for
abbrev pub connection_to : Name → Slot → Expr → List Connection
connection_to name slot value = connection_at_place name slot.range value slot.place

-- a connection by name (12.3.6)
abbrev pub connection_by_name : List Signal → Name → Option Expr → List Connection
connection_by_name names name None = []
connection_by_name names name (Some value) = option_map_or (λ slot. connection_to name slot value) (signal_named names name) []

-- a connection by its place in the order of the ports (12.3.5)
abbrev pub connection_by_place : List Signal → ℕ → Option Expr → List Connection
connection_by_place names place None = []
connection_by_place names place (Some value) = option_map_or (λ signal. connection_to signal.name signal.slot value) (slice_get names place) []

-- connections in order, of which the first has this place
unfoldable pub connections_from : List Signal → ℕ → List (Option Expr) → List Connection
connections_from names place [] = []
connections_from names place (value ∷ values) = connection_by_place names place value ++ connections_from names (place + 1) values

-- the connections to ports, in the order of the text
unfoldable pub connections_among : List Signal → Conns → List Connection
connections_among names (Named conns) = flat_map (λ conn. connection_by_name names conn.port conn.value) conns
connections_among names (Order values) = connections_from names 0 values

-- what is tied in a module

-- the tie of a connection of the instance of this name and number
abbrev pub pin_of : Name → ℕ → Connection → Tied
pin_of instance number connection = Pin instance number connection.port connection.number (width_of connection.range) connection.value

-- what an instance of this module and number ties
abbrev pub instance_ties : Module → ℕ → VInst → List Tied
instance_ties below number instance = map (pin_of instance.name number) (connections below instance.conns)

-- what instances of this module tie, of which the first has this number
unfoldable pub instances_ties : Module → ℕ → List VInst → List Tied
instances_ties below number [] = []
instances_ties below number (instance ∷ rest) = instance_ties below number instance ++ instances_ties below (number + 1) rest

-- what an item ties whose first instance has this number
unfoldable pub item_ties : List Module → ℕ → ItemV → List Tied
item_ties modules number (AssignItem statement) = map (λ set. Assign set.left set.right) statement.sets
item_ties modules number (InstancesItem statement) = option_map_or (λ below. instances_ties below number statement.insts) (module_named modules statement.module) []
item_ties modules number (NetItem decl) = flat_map (λ constant. map (λ name. Supply name constant) decl.names) (supply_node decl.kind)
item_ties modules number (PortItem decl) = []
item_ties modules number (ParamItem decl) = []
item_ties modules number (DefparamItem statement) = []

-- what items tie, before which this many instances stand
unfoldable pub ties_from : List Module → ℕ → List ItemV → List Tied
ties_from modules number [] = []
ties_from modules number (item ∷ items) = item_ties modules number item ++ ties_from modules (number + instance_count item) items

-- what is tied in a module, in the order of the text
unfoldable pub module_ties : List Module → Module → List Tied
module_ties modules m = ties_from modules 0 m.items

-- the sized literals in what is tied
abbrev pub tied_literals : Tied → List Literal
tied_literals (Pin instance number port port_number size value) = literals value
tied_literals (Assign left right) = literals left ++ literals right
tied_literals (Supply name constant) = []

-- the sized literals in a tie of the code
abbrev pub tie_literals : Tie → List Literal
tie_literals tie = tied_literals (tied tie)

-- the names of what is tied, as a refusal has them
abbrev pub tied_names : Tied → List Name
tied_names (Pin instance number port port_number size value) = instance ∷ port ∷ []
tied_names (Assign left right) = codes "assign" ∷ first_use left
tied_names (Supply name constant) = name ∷ []

-- the two sides have two widths, and no unsized literal stands in them
abbrev pub is_unequal : Pairing → Bool
is_unequal pairing = not (nat_eq pairing.left_width pairing.right_width) && not pairing.is_loose

-- an unsized literal stands in one of the two sides
abbrev pub is_unsized : Pairing → Bool
is_unsized pairing = pairing.is_loose

-- the condition holds of the two sides, where there are two
abbrev pub any_pairing : (Pairing → Bool) → List Signal → Tied → Bool
any_pairing condition names (Pin instance number port port_number size value) = condition (pairing_of_pin names instance number port port_number size value)
any_pairing condition names (Assign left right) = condition (pairing_of_assign names left right)
any_pairing condition names (Supply name constant) = false

-- the pairings that break the rule
abbrev pub is_broken : TieRule → Pairing → Bool
is_broken EqualWidths = is_unequal
is_broken SizedLiterals = is_unsized

-- the objects of a module that break the rule
abbrev pub broken_objects : TieRule → List Module → Module → Objects
broken_objects EqualWidths = unequal_widths
broken_objects SizedLiterals = unsized

-- the rule by its number
abbrev pub rule_number : TieRule → Rule
rule_number EqualWidths = G8
rule_number SizedLiterals = G13

-- the left side of an assignment has less than 2 ^ 61 bits
abbrev pub HasNarrowLeft : List Signal → Tied → Type 0
HasNarrowLeft names (Pin instance number port port_number size value) = ⊤
HasNarrowLeft names (Assign left right) = width names left < 2 ^ 61
HasNarrowLeft names (Supply name constant) = ⊤

-- how many joins there are, where the two sides have one width and all bits of the left are something
abbrev pub tied_count : List Signal → Tied → ℕ
tied_count names (Pin instance number port port_number size value) = live_width names value
tied_count names (Assign left right) = live_width names right
tied_count names (Supply name constant) = option_map_or (λ slot. width_of slot.range) (signal_named names name) 0

-- how many joins there are at most: the bits of the left side
abbrev pub tied_most : List Signal → Tied → ℕ
tied_most names (Pin instance number port port_number size value) = size
tied_most names (Assign left right) = width names left
tied_most names (Supply name constant) = option_map_or (λ slot. width_of slot.range) (signal_named names name) 0

-- how many joins a module has at most: the bits of the left sides of what it ties
unfoldable pub most_joins : List Module → Module → ℕ
most_joins modules m = sum_by (tied_most (signals m)) (module_ties modules m)

-- the width of a port or net
abbrev pub signal_width : Signal → ℕ
signal_width signal = width_of signal.slot.range

-- the bits of the ports and nets of a module
abbrev pub module_bits : Module → ℕ
module_bits m = sum_by signal_width (signals m)
