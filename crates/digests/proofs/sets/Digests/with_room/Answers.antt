use Rattle.digests.proofs.SetLaws.{none_noted}
use Rattle.digests.proofs.sets.Digests.with_room.Goals as goal

pub returns : goal.returns
returns c = none_noted _
