use Rattle.edif_nets.specs.Grammar.{designator}
use Rattle.edif_nets.proofs.Live.{live_designator, closed_designator}
use Rattle.edif_exact.proofs.Wholly.{needs_more}
use Rattle.edif_exact.proofs.more.designators_need_more.Goals as goal

pub returns : goal.returns
returns c = needs_more designator live_designator closed_designator
