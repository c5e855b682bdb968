use Rattle.net_flatten_fits.proofs.Names.{flattened_short}
use Rattle.net_flatten_fits.proofs.Values.{flattened_sound}
use Rattle.net_flatten_fits.proofs.laws.flattened_designs_fit.Goals as goal

pub returns : goal.returns
returns c = record { sound = flattened_sound; short = flattened_short }
