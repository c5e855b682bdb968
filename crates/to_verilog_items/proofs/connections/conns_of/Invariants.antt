use Rattle.std.proofs.Common.{◌≡◌, ◌++◌, drop, map}
use Rattle.std.specs.List.{enumerate_from}
use Rattle.to_verilog_items.specs.Instances.{conn_of, conns_of}
use Rattle.to_verilog_items.proofs.connections.conns_of.Given as goal

abbrev pub invariant-loop-number : goal.invariant-loop-number
invariant-loop-number l = l.conns ++ map (conn_of l.ports l.wiring l.instance) (enumerate_from l.number (drop l.number l.below)) ≡ conns_of l.ports l.wiring l.instance l.below
