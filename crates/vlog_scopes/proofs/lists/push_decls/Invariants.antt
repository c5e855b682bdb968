use Rattle.std.proofs.Common.{◌≡◌, ◌++◌, drop, flat_map}
use Rattle.vlog_design.specs.Tables.{names_of}
use Rattle.vlog_scopes.proofs.lists.push_decls.Given as goal

abbrev pub invariant-loop-decl : goal.invariant-loop-decl
invariant-loop-decl l = names_of l.out.items ++ flat_map (λ decl. decl.names) (drop l.decl-index l.decls) ≡ names_of l.initial.out.items ++ flat_map (λ decl. decl.names) l.decls
