use Rattle.edif_nets.specs.Grammar.{port}
use Rattle.edif_nets.proofs.Live.{live_port, closed_port}
use Rattle.edif_exact.proofs.Wholly.{needs_more}
use Rattle.edif_exact.proofs.more.ports_need_more.Goals as goal

pub returns : goal.returns
returns c = needs_more port live_port closed_port
