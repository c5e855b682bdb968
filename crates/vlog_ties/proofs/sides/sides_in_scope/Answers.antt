use Rattle.std.proofs.Common.{ap, arith, refl, subst, take, ◌+◌, ◌∙◌}
use Rattle.vlog_ties.specs.Sides.{AreTieSides}
use Rattle.vlog_ties.specs.Ties.{all_tied, item_ties, modules_in, ties_from}
use Rattle.vlog_ties.proofs.ItemLaws.{added_alone, all_taken}
use Rattle.vlog_ties.proofs.Narrow.{ties_narrow}
use Rattle.vlog_ties.proofs.Places.{counted_on, instances_left, instances_of_module, items_front}
use Rattle.vlog_ties.proofs.SideLaws.{module_sides, ties_begun, ties_more}
use Rattle.vlog_ties.proofs.Valid.{item_ties_valid}
use Rattle.vlog_ties.proofs.WrongLaws.{wrong_done, wrong_more}
use Rattle.vlog_ties.proofs.sides.sides_in_scope.Goals as goal

pub loop-item-init : goal.loop-item-init
loop-item-init c =
    let scope = c.args.scope.now in
    record {
      few = omega (arith, instances_of_module scope.module.now _ c.items-item-items.ensures c.requires.small);
      counted = refl;
      sides = ties_begun scope.module.now scope.table (modules_in c.args.scopes.now) _ c.no_sides-sides.ensures.unequal c.no_sides-sides.ensures.loose c.no_sides-sides.ensures.most;
      wrong = c.no_sides-sides.ensures.wrong;
    }

pub sides_of_ties-requires : goal.sides_of_ties-requires
sides_of_ties-requires c =
    let scope = c.args.scope.now in
    ties_narrow scope.module.now scope.table _ _ scope.is_whole (ap all_tied c.as_slice.ensures.value ∙ added_alone _ _ _ c.clear.ensures.items c.in_ok-push_item_ties.ensures.added) c.requires.valid
    (item_ties_valid (modules_in c.args.scopes.now) scope.module.now c.loop-item.number _ c.loop-item.item-index c.item-item.result c.items-item-items.ensures c.item-item.is c.loop-item-test.true c.requires.valid c.requires.small)

pub loop-item-preserved : goal.loop-item-preserved
loop-item-preserved c =
    let scope = c.args.scope.now in
    let modules = modules_in c.args.scopes.now in
    let items = c.items-item-items.result.now in
    let i = c.loop-item.item-index in
    let left = instances_left items i c.item-item.result c.item-item.is c.loop-item-test.true in
    let are = ap all_tied c.as_slice.ensures.value ∙ added_alone _ _ _ c.clear.ensures.items c.in_ok-push_item_ties.ensures.added in
    record {
      few = omega (arith, c.loop-item.invariant.few, left, c.instance_count-number.ensures);
      counted = counted_on items i c.item-item.result c.loop-item.number c.instance_count-number.result c.item-item.is c.loop-item-test.true c.loop-item.invariant.counted c.instance_count-number.ensures;
      sides = ties_more scope.module.now scope.table (ties_from modules 0 (take i items)) (item_ties modules c.loop-item.number c.item-item.result) (ties_from modules 0 (take (i + 1) items))
          (items_front modules items i c.item-item.result c.loop-item.number c.item-item.is c.loop-item-test.true c.loop-item.invariant.counted) c.loop-item.sides c.in_ok-next.next c.joined-sides.result c.loop-item.invariant.sides
          (subst (λ ts. AreTieSides scope.module.now scope.table ts c.in_ok-next.next) are c.in_ok-next.ensures.sides) c.joined-sides.ensures.unequal c.joined-sides.ensures.loose c.joined-sides.ensures.most;
      wrong = wrong_more items i scope.table c.item-item.result c.item-item.is c.loop-item-test.true c.loop-item.sides.wrong c.in_ok-next.next.wrong c.joined-sides.result.wrong c.loop-item.invariant.wrong
          (c.in_ok-next.ensures.wrong ∙ c.in_ok-wrong.ensures) c.joined-sides.ensures.wrong;
    }

pub returns : goal.returns
returns c =
    let scope = c.args.scope.now in
    let modules = modules_in c.args.scopes.now in
    let items = c.items-item-items.result.now in
    module_sides modules scope.module.now scope.table _ c.loop-item.sides scope.is_whole (all_taken modules scope.module.now items c.loop-item.item-index c.items-item-items.ensures c.loop-item-test.false) c.loop-item.invariant.sides
    (wrong_done items c.loop-item.item-index scope.table scope.module.now c.loop-item.sides.wrong scope.is_whole c.items-item-items.ensures c.loop-item-test.false c.loop-item.invariant.wrong)
