use Rattle.edif_nets.specs.Grammar.{net}
use Rattle.edif_nets.proofs.Live.{live_net, closed_net}
use Rattle.edif_exact.proofs.Wholly.{needs_more}
use Rattle.edif_exact.proofs.more.nets_need_more.Goals as goal

pub returns : goal.returns
returns c = needs_more net live_net closed_net
