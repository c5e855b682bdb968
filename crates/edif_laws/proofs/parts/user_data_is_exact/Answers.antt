use Rattle.edif_status.specs.Grammar.{user}
use Rattle.edif_status.proofs.Live.{live_user, closed_user}
use Rattle.edif_laws.proofs.Reading.{exact}
use Rattle.edif_laws.proofs.parts.user_data_is_exact.Goals as goal

pub returns : goal.returns
returns c = exact user live_user closed_user
