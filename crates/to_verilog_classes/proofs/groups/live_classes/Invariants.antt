use Rattle.std.proofs.Common.{◌≡◌, map}
use Rattle.std.specs.List.{range_with_len}
use Rattle.net_bits.specs.Classes.{members_of}
use Rattle.net_live.specs.Live.{is_live}
use Rattle.to_verilog_classes.proofs.groups.live_classes.Given as goal

abbrev pub invariant-loop-class : goal.invariant-loop-class
invariant-loop-class l = l.live.items ≡ map (λ class. is_live l.cell.nets (members_of l.classes class)) (range_with_len 0 l.class)
