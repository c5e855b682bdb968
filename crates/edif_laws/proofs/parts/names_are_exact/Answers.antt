use Rattle.edif_names.specs.Grammar.{name}
use Rattle.edif_names.proofs.Live.{live_name, closed_name}
use Rattle.edif_laws.proofs.Reading.{exact}
use Rattle.edif_laws.proofs.parts.names_are_exact.Goals as goal

pub returns : goal.returns
returns c = exact name live_name closed_name
