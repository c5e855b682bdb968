use Rattle.vlog_exprs.specs.Grammar.{bound}
use Rattle.vlog_exprs.proofs.Live.{live_bound}
use Rattle.vlog_exprs.proofs.Clear.{clear_bound}
use Rattle.vlog_laws.specs.Exact.{Any}
use Rattle.vlog_laws.proofs.Reading.{exact}
use Rattle.vlog_laws.proofs.parts.bounds_are_exact.Goals as goal

pub returns : goal.returns
returns c = exact bound Any live_bound (clear_bound _) tt
