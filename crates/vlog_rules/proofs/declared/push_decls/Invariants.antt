use Rattle.std.proofs.Common.{◌≡◌, ◌++◌, drop, flat_map}
use Rattle.vlog_design.specs.Names.{declared_port}
use Rattle.vlog_rules.specs.Seen.{declarations_of}
use Rattle.vlog_rules.proofs.declared.push_decls.Given as goal

abbrev pub invariant-loop-decl : goal.invariant-loop-decl
invariant-loop-decl l = declarations_of l.out.items ++ flat_map (λ decl. flat_map declared_port decl.names) (drop l.decl-index l.decls) ≡ declarations_of l.initial.out.items ++ flat_map (λ decl. flat_map declared_port decl.names) l.decls
