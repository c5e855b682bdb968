use Rattle.vlog_exprs.specs.Grammar.{bound}
use Rattle.vlog_exprs.proofs.Live.{live_bound}
use Rattle.vlog_exprs.proofs.Clear.{clear_bound}
use Rattle.vlog_laws.specs.Exact.{Any}
use Rattle.vlog_exact.proofs.Wholly.{more}
use Rattle.vlog_exact.proofs.more.bounds_need_more.Goals as goal

pub returns : goal.returns
returns c = more bound Any live_bound (clear_bound _) tt
