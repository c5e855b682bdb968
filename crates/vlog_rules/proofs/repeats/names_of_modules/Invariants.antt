use Rattle.std.proofs.Common.{◌≡◌, ◌++◌, drop, map}
use Rattle.vlog_design.specs.Tables.{names_of}
use Rattle.vlog_rules.proofs.repeats.names_of_modules.Given as goal

abbrev pub invariant-loop-m : goal.invariant-loop-m
invariant-loop-m l = names_of l.names.items ++ map (λ x. x.name) (drop l.m-index l.modules) ≡ map (λ x. x.name) l.modules
