use Rattle.std.proofs.Common.{[], flat_map}
use Rattle.std.specs.List.{range_with_len}
use Rattle.to_verilog_classes.specs.Roots.{AddsKeys, of_live, wide_among}
use Rattle.to_verilog_classes.proofs.roots.wide_ports.Given as goal

abbrev pub invariant-loop-class : goal.invariant-loop-class
invariant-loop-class l = AddsKeys [] l.ports.keys (flat_map (of_live l.groups (wide_among l.hier.cells l.cell)) (range_with_len 0 l.class))
