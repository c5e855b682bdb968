use Rattle.std.proofs.Common.{◌∙◌, ap, sym, take, Some, None, option_to_list}
use Rattle.to_verilog_classes.specs.Roots.{of_live}
use Rattle.to_verilog_classes.proofs.RootLaws.{firsts_turn, none_more}
use Rattle.to_verilog_classes.proofs.roots.push_first_members.Goals as goal
use Rattle.to_verilog_classes.proofs.roots.push_first_members.Goals.{in-Some+in_ok-push, in_default}

pub loop-class-preserved : goal.loop-class-preserved
loop-class-preserved c =
    elim c.match-first_written.branch [
      | in-Some+in_ok-push w ↦ firsts_turn (of_live c.args.groups.now (take 1)) c.loop-class.class c.args.roots.now.items c.loop-class.roots.items c.match-first_written.roots.items (Some w.in-Some.first) c.loop-class.invariant
          (sym (ap option_to_list w.in-Some.is) ∙ c.first_written.ensures) (ap (λ v. v.items) w.roots-is ∙ w.in_ok-push.ensures.items)
      | in_default w ↦ firsts_turn (of_live c.args.groups.now (take 1)) c.loop-class.class c.args.roots.now.items c.loop-class.roots.items c.match-first_written.roots.items None c.loop-class.invariant
          (sym (ap option_to_list w.in_default.is) ∙ c.first_written.ensures) (ap (λ v. v.items) w.roots-is ∙ none_more)
    ]
