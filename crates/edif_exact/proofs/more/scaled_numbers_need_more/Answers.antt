use Rattle.edif_names.specs.Grammar.{scaled}
use Rattle.edif_names.proofs.Live.{live_scaled, closed_scaled}
use Rattle.edif_exact.proofs.Wholly.{needs_more}
use Rattle.edif_exact.proofs.more.scaled_numbers_need_more.Goals as goal

pub returns : goal.returns
returns c = needs_more scaled live_scaled closed_scaled
