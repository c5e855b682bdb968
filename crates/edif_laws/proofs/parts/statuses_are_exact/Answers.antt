use Rattle.edif_status.specs.Grammar.{status}
use Rattle.edif_status.proofs.Live.{live_status, closed_status}
use Rattle.edif_laws.proofs.Reading.{exact}
use Rattle.edif_laws.proofs.parts.statuses_are_exact.Goals as goal

pub returns : goal.returns
returns c = exact status live_status closed_status
