use Rattle.std.proofs.Common.{◌≡◌, ◌++◌, drop, flat_map}
use Rattle.vlog_design.specs.Names.{port_decl}
use Rattle.vlog_design.specs.Tables.{names_of}
use Rattle.vlog_rules.proofs.lists.inner_directions.Given as goal

abbrev pub invariant-loop-item : goal.invariant-loop-item
invariant-loop-item l = names_of l.names.items ++ flat_map (λ decl. decl.names) (flat_map port_decl (drop l.item-index l.fn.m.items)) ≡ flat_map (λ decl. decl.names) (flat_map port_decl l.fn.m.items)
