use Rattle.std.proofs.Common.{◌<◌, ◌∙◌, length, sym, subst}
use Rattle.net_graph.specs.Graph.{IsInRange}
use Rattle.edif_resolve.proofs.Bounding.{few_units}
use Rattle.edif_resolve.proofs.Numbers.{below_in_range, top_within}
use Rattle.edif_resolve.proofs.Showing.{shown}
use Rattle.edif_resolve.proofs.checking.shows_design.Goals as goal

pub postorder-requires-clause-in_range : goal.postorder-requires-clause-in_range
postorder-requires-clause-in_range c = subst IsInRange (sym c.graph.ensures) (below_in_range c.args.tabled.now)

pub postorder-requires-clause-within : goal.postorder-requires-clause-within
postorder-requires-clause-within c = subst (λ graph. c.in-Some.top < length graph) (sym c.graph.ensures) (top_within c.args.tabled.now c.in-Some.top (sym c.in-Some.is ∙ c.top.ensures))

pub returns : goal.returns
returns c there =
    shown (λ order. order.items) _ c.args.tabled.now c.requires.clean c.requires.small (few_units c.args.tabled.now c.in_ok-most.most 33554432 c.in_ok-most.ensures c.if-most-gt-UNIT_LIMIT.false) c.in-Some.top (sym c.in-Some.is ∙ c.top.ensures)
    c.graph.result.now c.graph.ensures c.in_ok-order.order (sym c.is_some.ensures ∙ there) c.in_ok-order.ensures.order c.in_ok-order.ensures.free
