use Rattle.std.proofs.Common.{sym, ◌∙◌}
use Rattle.vlog_ties.proofs.Live.{live_copied, open_copied}
use Rattle.vlog_ties.proofs.counts.live_copies.Goals as goal

pub returns-then-is_live : goal.returns-then-is_live
returns-then-is_live c = c.from.ensures ∙ live_copied c.args.bit c.args.count (sym c.if-is_live.ensures)

pub returns-else-is_live : goal.returns-else-is_live
returns-else-is_live c = open_copied c.args.bit c.args.count (sym c.if-is_live.ensures)
