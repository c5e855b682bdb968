use Rattle.net_flatten_refusals.proofs.ShortLaws.{own_names, short_design, short_names}
use Rattle.net_flatten_refusals.proofs.laws.names_without_refusals.Goals as goal

pub returns : goal.returns
returns c = record { own = own_names; short = short_names; props = short_design }
