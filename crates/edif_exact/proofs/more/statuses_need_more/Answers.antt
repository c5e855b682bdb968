use Rattle.edif_status.specs.Grammar.{status}
use Rattle.edif_status.proofs.Live.{live_status, closed_status}
use Rattle.edif_exact.proofs.Wholly.{needs_more}
use Rattle.edif_exact.proofs.more.statuses_need_more.Goals as goal

pub returns : goal.returns
returns c = needs_more status live_status closed_status
