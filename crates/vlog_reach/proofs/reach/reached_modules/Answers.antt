use Rattle.std.proofs.Common.{◌<◌, ◌∙◌, ap, length, subst, sym}
use Rattle.vlog_reach.proofs.ReachLaws.{graph_long, in_range}
use Rattle.vlog_reach.proofs.reach.reached_modules.Goals as goal

pub reached_from-requires-clause-within : goal.reached_from-requires-clause-within
reached_from-requires-clause-within c = subst (λ n. c.args.top < n) (sym (ap length (c.deref.ensures.value ∙ c.in_ok-graph.ensures) ∙ graph_long c.args.modules.now)) c.requires.within

pub reached_from-requires-clause-in_range : goal.reached_from-requires-clause-in_range
reached_from-requires-clause-in_range c = in_range c.args.modules.now c.deref.result.now (c.deref.ensures.value ∙ c.in_ok-graph.ensures)

pub marked_modules-requires : goal.marked_modules-requires
marked_modules-requires c = c.deref-2.ensures.len ∙ (c.in_ok-marks.ensures.long ∙ (ap length (c.deref.ensures.value ∙ c.in_ok-graph.ensures) ∙ graph_long c.args.modules.now))
