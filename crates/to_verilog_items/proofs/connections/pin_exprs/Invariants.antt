use Rattle.std.proofs.Common.{◌≡◌}
use Rattle.std.specs.List.{range_with_len}
use Rattle.to_verilog_items.specs.Instances.{pin_exprs}
use Rattle.to_verilog_items.proofs.connections.pin_exprs.Given as goal

abbrev pub invariant-loop-bit : goal.invariant-loop-bit
invariant-loop-bit l = l.exprs ≡ pin_exprs l.ports l.wiring l.instance l.port (range_with_len 0 l.bit)
