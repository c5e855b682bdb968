use Rattle.nl_base.specs.Place.{place_at_start}
use Rattle.vlog_bounds.proofs.Tokens.{tokens_sound}
use Rattle.vlog_bounds.proofs.laws.tokens_are_sound.Goals as goal

pub returns : goal.returns
returns c = λ bs all. tokens_sound place_at_start bs all
