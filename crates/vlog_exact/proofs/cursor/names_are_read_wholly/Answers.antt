use Rattle.readers.proofs.Shapes.{closed_one}
use Rattle.vlog_exprs.specs.Grammar.{name}
use Rattle.vlog_exprs.proofs.Live.{live_name}
use Rattle.vlog_exprs.specs.Reasons as say
use Rattle.vlog_laws.specs.Exact.{Any}
use Rattle.vlog_exact.proofs.Wholly.{wholly}
use Rattle.vlog_exact.proofs.cursor.names_are_read_wholly.Goals as goal

pub returns : goal.returns
returns c = wholly name Any live_name (closed_one (λ _ x. say.name_of x.token) tt) tt
