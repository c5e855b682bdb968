use Rattle.std.proofs.Common.{◌≡◌, ◌++◌}
use Rattle.std.specs.List.{range_with_len}
use Rattle.to_verilog_classes.specs.Roots.{open_pins}
use Rattle.to_verilog_classes.proofs.roots.push_open_pins.Given as goal

abbrev pub invariant-loop-bit : goal.invariant-loop-bit
invariant-loop-bit l = l.roots.items ≡ l.initial.roots.items ++ open_pins l.groups l.instance l.port (range_with_len 0 l.bit)
