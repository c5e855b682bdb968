use Rattle.std.proofs.Common.{◌<◌, arith, subst}
use Rattle.std.proofs.lemmas.Option.{slice_get_within}
use Rattle.net_graph.specs.Graph.{IsRecursionAt}
use Rattle.net_graph.proofs.ListLaws.{said_of_some}
use Rattle.net_graph.proofs.recursion.search_recursion.Goals as goal

pub returns-in-Some : goal.returns-in-Some
returns-in-Some c =
    let at : IsRecursionAt c.args.graph.now c.loop-number.number c.in-Some.recursion.number c.in-Some.recursion.place = said_of_some c.in_ok-recursion.field-0 _ _ c.in-Some.recursion c.in-Some.is c.in_ok-recursion.ensures in
    record { closing = at.closing; first_number = λ earlier lt. c.loop-number.invariant earlier (subst (λ n. earlier < n) at.same_number lt) }

pub returns : goal.returns
returns c number reaches = c.loop-number.invariant number (omega (arith, slice_get_within c.args.graph.now number reaches.first.numbers reaches.first.are_below, c.loop-number-test.false)) reaches
