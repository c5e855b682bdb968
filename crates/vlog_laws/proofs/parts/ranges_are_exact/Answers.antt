use Rattle.vlog_exprs.specs.Grammar.{range}
use Rattle.vlog_exprs.proofs.Live.{live_range}
use Rattle.vlog_exprs.proofs.Clear.{clear_range}
use Rattle.vlog_laws.specs.Exact.{Any}
use Rattle.vlog_laws.proofs.Reading.{exact}
use Rattle.vlog_laws.proofs.parts.ranges_are_exact.Goals as goal

pub returns : goal.returns
returns c = exact range Any live_range (clear_range _) tt
