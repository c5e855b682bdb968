use Rattle.std.proofs.Common.{◌≡◌, ap, get_or, slice_get, Some, ◌∙◌}
use Rattle.std.proofs.lemmas.Option.{slice_get-get_or}
use Rattle.flat_numbers.specs.declared.spots.Spot.{Spot}
use Rattle.flat_classes.proofs.TerminalLaws.{leaf_added, leaf_passed}
use Rattle.flat_classes.proofs.terminals.leaves_of.Goals as goal
use Rattle.flat_classes.proofs.terminals.leaves_of.Goals.{then-is_leaf_spot+in_ok-push, else-is_leaf_spot}

pub loop-number-preserved : goal.loop-number-preserved
loop-number-preserved c =
    let spot : Spot = get_or c.args.spots.now c.loop-number.number (record { parent = 0; instance = 0; cell = 0 }) in
    let there : slice_get c.args.spots.now c.loop-number.number ≡ Some spot = slice_get-get_or c.args.spots.now c.loop-number.number (record { parent = 0; instance = 0; cell = 0 }) c.loop-number-test.true in
    elim c.if-is_leaf_spot.branch [
      | then-is_leaf_spot+in_ok-push w ↦ leaf_added c.args.spots.now c.args.leaves.now c.args.constants.now c.loop-number.number spot c.is_leaf_spot.result c.loop-number.found.items c.if-is_leaf_spot.found.items there c.is_leaf_spot.ensures w.if-is_leaf_spot.true (ap (λ v. v.items) w.found-is ∙ w.in_ok-push.ensures.items) c.loop-number.invariant
      | else-is_leaf_spot w ↦ leaf_passed c.args.spots.now c.args.leaves.now c.args.constants.now c.loop-number.number spot c.is_leaf_spot.result c.loop-number.found.items c.if-is_leaf_spot.found.items there c.is_leaf_spot.ensures w.if-is_leaf_spot.false (ap (λ v. v.items) w.found-is) c.loop-number.invariant
    ]
