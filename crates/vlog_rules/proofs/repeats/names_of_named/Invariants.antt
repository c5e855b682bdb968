use Rattle.std.proofs.Common.{◌≡◌, ◌++◌, drop, map}
use Rattle.vlog_design.specs.Tables.{names_of}
use Rattle.vlog_rules.proofs.repeats.names_of_named.Given as goal

abbrev pub invariant-loop-conn : goal.invariant-loop-conn
invariant-loop-conn l = names_of l.names.items ++ map (λ x. x.port) (drop l.conn-index l.conns) ≡ map (λ x. x.port) l.conns
