use Rattle.std.proofs.Common.{◌≡◌, ◌++◌, drop, flat_map}
use Rattle.vlog_design.specs.Names.{declared_params}
use Rattle.vlog_rules.specs.Seen.{declarations_of}
use Rattle.vlog_rules.proofs.declared.push_params.Given as goal

abbrev pub invariant-loop-decl : goal.invariant-loop-decl
invariant-loop-decl l = declarations_of l.out.items ++ flat_map declared_params (drop l.decl-index l.decls) ≡ declarations_of l.initial.out.items ++ flat_map declared_params l.decls
