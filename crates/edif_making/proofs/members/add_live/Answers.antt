use Rattle.std.proofs.Common.{rules, sym, ◌∙◌}
use Rattle.edif_making.proofs.MemberLaws.{next_laid}
use Rattle.edif_making.proofs.members.add_live.Goals as goal

pub returns : goal.returns
returns c = λ lists are. next_laid lists c.args.starts.now.items c.push.new.self.items c.args.nodes.now.items c.args.class.now c.extend_from_slice.new.self.items c.len-end.result _
    (sym c.is_live.ensures ∙ c.if-not-is_live.false) c.in_ok-extend_from_slice.ensures.items (search rules) c.in_ok-push.ensures.items are
