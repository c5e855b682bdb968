use Rattle.std.proofs.Common.{◌<◌, subst}
use Rattle.net_graph.specs.Graph.{IsRecursionAt}
use Rattle.net_graph.specs.Levels.{FallsAt, LevelsFall}
use Rattle.net_graph.proofs.Levelling.{falls_free}
use Rattle.net_graph.proofs.ListLaws.{said_of_some}
use Rattle.net_graph.proofs.recursion.first_recursion.Goals as goal

pub returns-in_default : goal.returns-in_default
returns-in_default c number reaches =
    let fall : LevelsFall c.args.graph.now c.in_ok-levels.levels.items = subst (LevelsFall c.args.graph.now) c.as_slice.ensures.value (c.levels_fall.ensures.0 c.if-levels_fall.true) in
    let falls : FallsAt c.args.graph.now c.in_ok-levels.levels.items number = subst (λ levels. FallsAt c.args.graph.now levels number) c.as_slice-then-levels_fall.ensures.value (c.in_default.ensures number) in
    falls_free c.args.graph.now c.in_ok-levels.levels.items number fall falls reaches

pub returns-in-Some-2 : goal.returns-in-Some-2
returns-in-Some-2 c =
    let fall : LevelsFall c.args.graph.now c.in_ok-levels.levels.items = subst (LevelsFall c.args.graph.now) c.as_slice.ensures.value (c.levels_fall.ensures.0 c.if-levels_fall.true) in
    let at : IsRecursionAt c.args.graph.now c.in-Some.number c.in-Some-2.recursion.number c.in-Some-2.recursion.place = said_of_some c.in_ok-recursion.field-0 _ _ c.in-Some-2.recursion c.in-Some-2.is c.in_ok-recursion.ensures in
    record {
      closing = at.closing;
      first_number = λ earlier lt reaches.
          let falls : FallsAt c.args.graph.now c.in_ok-levels.levels.items earlier = subst (λ levels. FallsAt c.args.graph.now levels earlier) c.as_slice-then-levels_fall.ensures.value (c.in-Some.ensures.first earlier (subst (λ n. earlier < n) at.same_number lt)) in
          falls_free c.args.graph.now c.in_ok-levels.levels.items earlier fall falls reaches;
    }
