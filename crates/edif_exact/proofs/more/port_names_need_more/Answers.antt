use Rattle.edif_names.specs.Grammar.{port_name}
use Rattle.edif_names.proofs.Live.{live_port_name, closed_port_name}
use Rattle.edif_exact.proofs.Wholly.{needs_more}
use Rattle.edif_exact.proofs.more.port_names_need_more.Goals as goal

pub returns : goal.returns
returns c = needs_more port_name live_port_name closed_port_name
