-- Names of ports and nets with their ranges, and what they stand for (IEEE 1364-2005, 4.3 and 12.3.3).
use Rattle.std.specs.Prelude.{ℕ, ◌+◌, List, [], ◌∷◌, map, find, bytes_eq, Option}
use Rattle.std.specs.Option.{option_and_then}
use Rattle.nl_base.specs.Ranges.{Bounds}
use Rattle.net_hier.specs.Cells.{width_of}
use Rattle.vlog_design.specs.Names.{Name, Signal}
use Rattle.vlog_design.specs.declared.signals.SignalAt.TheVariants.{AtPort, AtNet}
use Rattle.vlog_scopes.specs.declared.ranged.Ranged.{Ranged}
use Rattle.vlog_values.specs.declared.declaration.NetDecl.{NetDecl}
use Rattle.vlog_values.specs.declared.declaration.PortDecl.{PortDecl}

-- a name with the range that is declared for it
pub record RangedName : Type 0 where
  pub name : Name
  pub range : Option Bounds

-- a declared name, as the code keeps it
abbrev pub ranged_name : Ranged → RangedName
ranged_name ranged = record { name = ranged.name.now; range = ranged.range }

-- declared names, as the code keeps them
abbrev pub ranged_names : List Ranged → List RangedName
ranged_names = map ranged_name

-- the names of declarations with their ranges
abbrev pub plain_names : List RangedName → List Name
plain_names = map (λ one. one.name)

-- the names of declared names, as the code keeps them
abbrev pub lent_names : List Ranged → List Name
lent_names = map (λ one. one.name.now)

-- names of one range
abbrev pub of_range : Option Bounds → List Name → List RangedName
of_range range = map (λ name. record { name = name; range = range })

-- the names of a declaration of ports
abbrev pub ranged_ports : PortDecl → List RangedName
ranged_ports decl = of_range decl.range decl.names

-- the names of a declaration of nets
abbrev pub ranged_nets : NetDecl → List RangedName
ranged_nets decl = of_range decl.range decl.names

-- the range of the first that has the name
unfoldable pub range_named : List RangedName → Name → Option Bounds
range_named ranged name = option_and_then (λ one. one.range) (find (λ one. bytes_eq name one.name) ranged)

-- ports, of which the first has this number, with their declared ranges
abbrev pub port_slots : List RangedName → ℕ → List Name → List Signal
port_slots ranged number [] = []
port_slots ranged number (name ∷ names) = record { name = name; slot = record { range = range_named ranged name; place = AtPort number } } ∷ port_slots ranged (number + 1) names

-- nets, of which the first bit has this number
abbrev pub net_slots : ℕ → List RangedName → List Signal
net_slots first [] = []
net_slots first (one ∷ rest) = record { name = one.name; slot = record { range = one.range; place = AtNet first } } ∷ net_slots (first + width_of one.range) rest

-- the number of the bit behind nets, of which the first bit has this number
abbrev pub number_behind : ℕ → List RangedName → ℕ
number_behind first [] = first
number_behind first (one ∷ rest) = number_behind (first + width_of one.range) rest
