use Rattle.vlog_exprs.specs.Grammar.{range}
use Rattle.vlog_exprs.proofs.Live.{live_range}
use Rattle.vlog_exprs.proofs.Clear.{clear_range}
use Rattle.vlog_laws.specs.Exact.{Any}
use Rattle.vlog_exact.proofs.Wholly.{more}
use Rattle.vlog_exact.proofs.more.ranges_need_more.Goals as goal

pub returns : goal.returns
returns c = more range Any live_range (clear_range _) tt
