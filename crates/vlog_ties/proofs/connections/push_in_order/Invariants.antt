use Rattle.std.proofs.Common.{◌≡◌, ◌++◌, drop, map}
use Rattle.vlog_ties.specs.Ties.{all_tied, connections_from, pin_of}
use Rattle.vlog_ties.proofs.connections.push_in_order.Given as goal

abbrev pub invariant-loop-place : goal.invariant-loop-place
invariant-loop-place l = all_tied l.out.items ++ map (pin_of l.instance l.number) (connections_from l.table l.place (drop l.place l.values)) ≡ all_tied l.initial.out.items ++ map (pin_of l.instance l.number) (connections_from l.table 0 l.values)
