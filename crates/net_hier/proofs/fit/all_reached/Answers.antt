use Rattle.std.proofs.Common.{sym, ◌∙◌, subst}
use Rattle.net_graph.specs.Graph.{IsInRange}
use Rattle.net_hier.proofs.fit.all_reached.Goals as goal

pub reached_from-requires-clause-in_range : goal.reached_from-requires-clause-in_range
reached_from-requires-clause-in_range c = subst IsInRange (sym (c.as_slice.ensures.value ∙ c.in_ok-graph.ensures)) c.requires.in_range
