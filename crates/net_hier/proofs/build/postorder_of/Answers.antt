use Rattle.std.proofs.Common.{◌≡◌, ℕ, ◌≤◌, List, length, sym, ◌∙◌, subst}
use Rattle.net_graph.specs.Graph.{HasList, IsInRange, IsPostorder, IsReached, ReachesItself}
use Rattle.net_hier.specs.Design.{cells_below}
use Rattle.net_hier.specs.Valid.{count_limit}
use Rattle.net_graph.proofs.ListLaws.{said_of_some, some_is}
use Rattle.net_hier.proofs.Building.{few, in_range, none_reaches}
use Rattle.net_hier.proofs.build.postorder_of.Goals as goal

pub postorder-requires-clause-in_range : goal.postorder-requires-clause-in_range
postorder-requires-clause-in_range c =
    let is_graph : c.as_slice.result.now ≡ cells_below c.args.cells.now = c.as_slice.ensures.value ∙ c.in_ok-graph.ensures in
    subst IsInRange (sym is_graph) (in_range c.args.cells.now c.args.top c.requires)

pub recursion_fault-requires-clause-in_range : goal.recursion_fault-requires-clause-in_range
recursion_fault-requires-clause-in_range c =
    let is_graph : c.as_slice-in_default.result.now ≡ cells_below c.args.cells.now = c.as_slice-in_default.ensures.value ∙ c.in_ok-graph.ensures in
    subst IsInRange (sym is_graph) (in_range c.args.cells.now c.args.top c.requires)

pub recursion_fault-requires-clause-few : goal.recursion_fault-requires-clause-few
recursion_fault-requires-clause-few c =
    let is_graph : c.as_slice-in_default.result.now ≡ cells_below c.args.cells.now = c.as_slice-in_default.ensures.value ∙ c.in_ok-graph.ensures in
    subst (λ graph. (number : ℕ) (numbers : List ℕ) → HasList graph number numbers → length numbers ≤ count_limit) (sym is_graph) (few c.args.cells.now c.args.top c.requires)

pub returns : goal.returns
returns c =
    let is_graph : c.as_slice.result.now ≡ cells_below c.args.cells.now = c.as_slice.ensures.value ∙ c.in_ok-graph.ensures in
    let free : (number : ℕ) → IsReached (cells_below c.args.cells.now) c.args.top number → ¬ ReachesItself (cells_below c.args.cells.now) number =
    subst (λ graph. (number : ℕ) → IsReached graph c.args.top number → ¬ ReachesItself graph number) is_graph (c.in_ok-order.ensures.free (some_is _ _ c.in-Some.is)) in
    let listed : IsPostorder c.as_slice.result.now c.args.top c.in-Some.order.items = said_of_some c.in_ok-order.field-0 _ _ c.in-Some.order c.in-Some.is c.in_ok-order.ensures.order in
    record {
      no_recursion = none_reaches c.args.cells.now c.args.top c.requires free;
      postorder = subst (λ graph. IsPostorder graph c.args.top c.in-Some.order.items) is_graph listed;
    }
