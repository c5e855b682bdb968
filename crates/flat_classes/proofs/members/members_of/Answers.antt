use Rattle.flat_classes.proofs.GroupLists.{members_are}
use Rattle.flat_classes.proofs.members.members_of.Goals as goal

pub returns : goal.returns
returns c = members_are c.args.groups.now c.args.count _ _ c.in_ok-starts.ensures
