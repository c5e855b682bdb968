use Rattle.edif_names.specs.Grammar.{name}
use Rattle.edif_names.proofs.Live.{live_name, closed_name}
use Rattle.edif_exact.proofs.Wholly.{needs_more}
use Rattle.edif_exact.proofs.more.names_need_more.Goals as goal

pub returns : goal.returns
returns c = needs_more name live_name closed_name
