-- The ports and nets that a module declares (IEEE 1364-2005, 4.2.1 and 12.3.3).
use Rattle.std.specs.Prelude.{List, ◌++◌, filter, flat_map, not}
use Rattle.vlog_design.specs.Names.{Signal, has_name, net_decls, port_names, port_signals}
use Rattle.vlog_scopes.specs.Ranged.{RangedName, net_slots, ranged_nets}
use Rattle.vlog_values.specs.declared.module.Module.{Module}

-- the declared nets that are no ports
abbrev pub declared_nets : Module → List RangedName
declared_nets m = filter (λ one. not (has_name (port_names m) one.name)) (flat_map ranged_nets (net_decls m))

-- what the ports and the declared nets stand for
abbrev pub declared_signals : Module → List Signal
declared_signals m = port_signals m 0 (port_names m) ++ net_slots 0 (declared_nets m)
