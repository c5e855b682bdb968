use Rattle.edif_nets.specs.Grammar.{instance}
use Rattle.edif_nets.proofs.Live.{live_instance, closed_instance}
use Rattle.edif_laws.proofs.Reading.{exact}
use Rattle.edif_laws.proofs.parts.instances_are_exact.Goals as goal

pub returns : goal.returns
returns c = exact instance live_instance closed_instance
