use Rattle.std.proofs.Common.{◌≡◌, ◌++◌, drop, flat_map, map}
use Rattle.vlog_design.specs.Names.{instance_statement}
use Rattle.vlog_design.specs.Tables.{names_of}
use Rattle.vlog_rules.proofs.lists.instance_names.Given as goal

abbrev pub invariant-loop-item : goal.invariant-loop-item
invariant-loop-item l = names_of l.names.items ++ map (λ instance. instance.name) (flat_map (λ statement. statement.insts) (flat_map instance_statement (drop l.item-index l.fn.m.items))) ≡ map (λ instance. instance.name) (flat_map (λ statement. statement.insts) (flat_map instance_statement l.fn.m.items))
