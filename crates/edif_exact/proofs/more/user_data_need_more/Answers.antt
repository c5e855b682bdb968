use Rattle.edif_status.specs.Grammar.{user}
use Rattle.edif_status.proofs.Live.{live_user, closed_user}
use Rattle.edif_exact.proofs.Wholly.{needs_more}
use Rattle.edif_exact.proofs.more.user_data_need_more.Goals as goal

pub returns : goal.returns
returns c = needs_more user live_user closed_user
