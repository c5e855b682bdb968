use Rattle.std.proofs.Common.{◌≡◌, drop, map}
use Rattle.vlog_design.specs.Names.{has_name}
use Rattle.vlog_rules.proofs.repeats.is_named.Given as goal

abbrev pub invariant-loop-conn : goal.invariant-loop-conn
invariant-loop-conn l = has_name (map (λ conn. conn.port) (drop l.conn-index l.conns)) l.port ≡ has_name (map (λ conn. conn.port) l.conns) l.port
