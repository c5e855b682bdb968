use Rattle.edif_nets.specs.Grammar.{net}
use Rattle.edif_nets.proofs.Live.{live_net, closed_net}
use Rattle.edif_laws.proofs.Reading.{exact}
use Rattle.edif_laws.proofs.parts.nets_are_exact.Goals as goal

pub returns : goal.returns
returns c = exact net live_net closed_net
