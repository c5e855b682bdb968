use Rattle.edif_names.specs.Grammar.{property}
use Rattle.edif_names.proofs.Live.{live_property, closed_property}
use Rattle.edif_laws.proofs.Reading.{exact}
use Rattle.edif_laws.proofs.parts.properties_are_exact.Goals as goal

pub returns : goal.returns
returns c = exact property live_property closed_property
