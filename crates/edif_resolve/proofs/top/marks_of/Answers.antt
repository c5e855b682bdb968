use Rattle.std.proofs.Common.{◌<◌, ◌∙◌, ap, sym, length, subst}
use Rattle.net_graph.specs.Graph.{IsInRange}
use Rattle.net_graph.specs.Marks.{marks_of}
use Rattle.edif_resolve.proofs.Numbers.{below_in_range, marks_none, marks_some, top_within}
use Rattle.edif_resolve.proofs.top.marks_of.Goals as goal

pub reached_from-requires-clause-within : goal.reached_from-requires-clause-within
reached_from-requires-clause-within c =
    subst (λ graph. c.in-Some.number < length graph) (sym c.requires.graph) (top_within c.args.tables.now c.in-Some.number (sym c.in-Some.is ∙ c.requires.start))

pub reached_from-requires-clause-in_range : goal.reached_from-requires-clause-in_range
reached_from-requires-clause-in_range c = subst IsInRange (sym c.requires.graph) (below_in_range c.args.tables.now)

pub returns-in-None : goal.returns-in-None
returns-in-None c = c.new.ensures.items ∙ marks_none c.args.tables.now (sym c.in-None.is ∙ c.requires.start)

pub returns-in_ok-marks-in-Some : goal.returns-in_ok-marks-in-Some
returns-in_ok-marks-in-Some c =
    c.in_ok-marks-in-Some.ensures.marks
    ∙ (ap (λ graph. marks_of graph c.in-Some.number) c.requires.graph ∙ marks_some c.args.tables.now c.in-Some.number (sym c.in-Some.is ∙ c.requires.start))
