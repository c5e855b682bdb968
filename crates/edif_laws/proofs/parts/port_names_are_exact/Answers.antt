use Rattle.edif_names.specs.Grammar.{port_name}
use Rattle.edif_names.proofs.Live.{live_port_name, closed_port_name}
use Rattle.edif_laws.proofs.Reading.{exact}
use Rattle.edif_laws.proofs.parts.port_names_are_exact.Goals as goal

pub returns : goal.returns
returns c = exact port_name live_port_name closed_port_name
