use Rattle.std.proofs.Common.{◌∙◌, ap}
use Rattle.net_live.specs.Live.{is_live}
use Rattle.to_verilog_classes.proofs.GroupLaws.{marks_turn}
use Rattle.to_verilog_classes.proofs.groups.live_classes.Goals as goal

pub loop-class-preserved : goal.loop-class-preserved
loop-class-preserved c = marks_turn _ c.loop-class.class c.loop-class.live.items c.push.new.self.items c.is_live.result c.loop-class.invariant (c.is_live.ensures ∙ ap (is_live c.args.cell.now.nets) c.members.ensures) c.in_ok-push.ensures.items
