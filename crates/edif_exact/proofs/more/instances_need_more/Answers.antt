use Rattle.edif_nets.specs.Grammar.{instance}
use Rattle.edif_nets.proofs.Live.{live_instance, closed_instance}
use Rattle.edif_exact.proofs.Wholly.{needs_more}
use Rattle.edif_exact.proofs.more.instances_need_more.Goals as goal

pub returns : goal.returns
returns c = needs_more instance live_instance closed_instance
