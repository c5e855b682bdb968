use Rattle.std.proofs.Common.{◌≡◌, ◌++◌, drop, flat_map}
use Rattle.vlog_design.specs.Names.{port_decl}
use Rattle.vlog_scopes.specs.Ranged.{ranged_names, ranged_ports}
use Rattle.vlog_scopes.proofs.ranged.push_items_ports.Given as goal

abbrev pub invariant-loop-item : goal.invariant-loop-item
invariant-loop-item l = ranged_names l.out.items ++ flat_map ranged_ports (flat_map port_decl (drop l.item-index l.items)) ≡ ranged_names l.initial.out.items ++ flat_map ranged_ports (flat_map port_decl l.items)
