use Rattle.readers.proofs.Shapes.{closed_one}
use Rattle.vlog_exprs.specs.Grammar.{number}
use Rattle.vlog_exprs.proofs.Live.{live_number}
use Rattle.vlog_exprs.specs.Reasons as say
use Rattle.vlog_laws.specs.Exact.{Any}
use Rattle.vlog_exact.proofs.Wholly.{wholly}
use Rattle.vlog_exact.proofs.cursor.numbers_are_read_wholly.Goals as goal

pub returns : goal.returns
returns c = wholly number Any live_number (closed_one (λ _ x. say.number_of x.token) tt) tt
