use Rattle.std.proofs.Common.{◌≡◌, ◌++◌, drop, flat_map, map}
use Rattle.vlog_ties.specs.Ties.{all_tied, connection_by_name, pin_of}
use Rattle.vlog_ties.proofs.connections.push_named.Given as goal

abbrev pub invariant-loop-place : goal.invariant-loop-place
invariant-loop-place l = all_tied l.out.items ++ map (pin_of l.instance l.number) (flat_map (λ conn. connection_by_name l.table conn.port conn.value) (drop l.place l.conns)) ≡ all_tied l.initial.out.items ++ map (pin_of l.instance l.number) (flat_map (λ conn. connection_by_name l.table conn.port conn.value) l.conns)
