use Rattle.vlog_plain.proofs.Parts.{cell_is}
use Rattle.vlog_plain.proofs.Uses.{are_apart}
use Rattle.vlog_plain.proofs.laws.plain_modules_are_cells.Goals as goal

pub returns : goal.returns
returns c = record { cells = λ modules p apart. cell_is modules p apart; apart = λ ps place p is. are_apart ps place p is }
