use Rattle.edif_partners.proofs.Kept.{made_connection, made_values}
use Rattle.edif_partners.proofs.laws.made_cells_keep_their_nets.Goals as goal

pub returns-clause-connection : goal.returns-clause-connection
returns-clause-connection c = made_connection

pub returns-clause-values : goal.returns-clause-values
returns-clause-values c = made_values
