use Rattle.std.proofs.Common.{◌≡◌, ◌++◌, flat_map, take}
use Rattle.std.specs.List.{range_with_len}
use Rattle.to_verilog_classes.specs.Roots.{of_live}
use Rattle.to_verilog_classes.proofs.roots.push_first_members.Given as goal

abbrev pub invariant-loop-class : goal.invariant-loop-class
invariant-loop-class l = l.roots.items ≡ l.initial.roots.items ++ flat_map (of_live l.groups (take 1)) (range_with_len 0 l.class)
