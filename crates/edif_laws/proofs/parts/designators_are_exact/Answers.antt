use Rattle.edif_nets.specs.Grammar.{designator}
use Rattle.edif_nets.proofs.Live.{live_designator, closed_designator}
use Rattle.edif_laws.proofs.Reading.{exact}
use Rattle.edif_laws.proofs.parts.designators_are_exact.Goals as goal

pub returns : goal.returns
returns c = exact designator live_designator closed_designator
