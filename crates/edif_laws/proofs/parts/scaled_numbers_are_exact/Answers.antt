use Rattle.edif_names.specs.Grammar.{scaled}
use Rattle.edif_names.proofs.Live.{live_scaled, closed_scaled}
use Rattle.edif_laws.proofs.Reading.{exact}
use Rattle.edif_laws.proofs.parts.scaled_numbers_are_exact.Goals as goal

pub returns : goal.returns
returns c = exact scaled live_scaled closed_scaled
