use Rattle.edif_nets.specs.Grammar.{port}
use Rattle.edif_nets.proofs.Live.{live_port, closed_port}
use Rattle.edif_laws.proofs.Reading.{exact}
use Rattle.edif_laws.proofs.parts.ports_are_exact.Goals as goal

pub returns : goal.returns
returns c = exact port live_port closed_port
