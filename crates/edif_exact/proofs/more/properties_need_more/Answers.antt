use Rattle.edif_names.specs.Grammar.{property}
use Rattle.edif_names.proofs.Live.{live_property, closed_property}
use Rattle.edif_exact.proofs.Wholly.{needs_more}
use Rattle.edif_exact.proofs.more.properties_need_more.Goals as goal

pub returns : goal.returns
returns c = needs_more property live_property closed_property
