use Rattle.std.proofs.Common.{◌≡◌, ◌++◌, drop, flat_map}
use Rattle.vlog_scopes.specs.Ranged.{ranged_names, ranged_ports}
use Rattle.vlog_scopes.proofs.ranged.push_decls.Given as goal

abbrev pub invariant-loop-decl : goal.invariant-loop-decl
invariant-loop-decl l = ranged_names l.out.items ++ flat_map ranged_ports (drop l.decl-index l.decls) ≡ ranged_names l.initial.out.items ++ flat_map ranged_ports l.decls
