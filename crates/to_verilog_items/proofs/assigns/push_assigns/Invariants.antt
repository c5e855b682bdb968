use Rattle.std.proofs.Common.{◌≡◌, ◌++◌, flat_map, map}
use Rattle.std.specs.List.{range_with_len}
use Rattle.to_verilog_classes.specs.Roots.{of_live}
use Rattle.vlog_written.specs.Written.{assign_item}
use Rattle.to_verilog_items.specs.Assigns.{assigns_among}
use Rattle.to_verilog_items.proofs.assigns.push_assigns.Given as goal

abbrev pub invariant-loop-class : goal.invariant-loop-class
invariant-loop-class l = l.items ≡ l.initial.items ++ map assign_item (flat_map (of_live l.wiring.groups (assigns_among l.ports l.wiring)) (range_with_len 0 l.class))
