use Rattle.std.proofs.Common.{◌≡◌, drop, find, map, not}
use Rattle.vlog_design.specs.Names.{has_name}
use Rattle.vlog_rules.proofs.connections.first_outside.Given as goal

abbrev pub invariant-loop-conn : goal.invariant-loop-conn
invariant-loop-conn l = find (λ port. not (has_name l.ports port)) (map (λ conn. conn.port) (drop l.conn-index l.conns)) ≡ find (λ port. not (has_name l.ports port)) (map (λ conn. conn.port) l.conns)
