use Rattle.std.proofs.Common.{◌≡◌, bytes_eq, drop, find}
use Rattle.vlog_rules.proofs.modules.has_module.Given as goal

abbrev pub invariant-loop-m : goal.invariant-loop-m
invariant-loop-m l = find (λ m. bytes_eq l.name m.name) (drop l.m-index l.modules) ≡ find (λ m. bytes_eq l.name m.name) l.modules
