use Rattle.std.proofs.Common.{arith, ◌+◌, List, get_or, refl, subst}
use Rattle.std.proofs.lemmas.Option.{slice_get_within}
use Rattle.net_hier.specs.declared.cells.HProp.{HProp}
use Rattle.edif_plans.specs.Made.{IsMadeUnder}
use Rattle.edif_plans.specs.Plans.{head_of}
use Rattle.edif_planning.proofs.OrderLaws.{order_once}
use Rattle.edif_planning.proofs.SizeLaws.{few_joins}
use Rattle.to_edif.specs.Settings.{design_of}
use Rattle.to_edif.proofs.CellLaws.{all_cells, kept_less, made_of, one_cell}
use Rattle.to_edif.specs.Left.{shown_cell}
use Rattle.to_edif.proofs.Left.{fits_left, good_left, less_left, made_left, made_whole, next_cell, props_behind, shown_is_there, shown_there, whole_here}
use Rattle.to_edif.proofs.cells.made_in_order.Goals as goal

pub classes_of-requires-clause-cell : goal.classes_of-requires-clause-cell
classes_of-requires-clause-cell c =
    let next = next_cell (design_of c.args.setting.now c.args.cells.now) c.loop-number.cells c.loop-number.number-index 0 c.requires.valid.valid c.loop-number.invariant.left c.loop-number-test.true in
    slice_get_within c.loop-number.cells _ next.cell next.is_there

pub classes_of-requires-clause-few : goal.classes_of-requires-clause-few
classes_of-requires-clause-few c =
    let next = next_cell (design_of c.args.setting.now c.args.cells.now) c.loop-number.cells c.loop-number.number-index 0 c.requires.valid.valid c.loop-number.invariant.left c.loop-number-test.true in
    λ cell there. few_joins (design_of c.args.setting.now c.args.cells.now) c.requires.valid _ cell (next.as_it_was cell there)

pub inside_of-requires : goal.inside_of-requires
inside_of-requires c =
    let next = next_cell (design_of c.args.setting.now c.args.cells.now) c.loop-number.cells c.loop-number.number-index 0 c.requires.valid.valid c.loop-number.invariant.left c.loop-number-test.true in
    slice_get_within c.loop-number.cells _ next.cell next.is_there

pub cell_of-requires-clause-cell : goal.cell_of-requires-clause-cell
cell_of-requires-clause-cell c =
    let design = design_of c.args.setting.now c.args.cells.now in
    let number = get_or c.args.setting.now.order.now c.loop-number.number-index 0 in
    let next = next_cell design c.loop-number.cells c.loop-number.number-index 0 c.requires.valid.valid c.loop-number.invariant.left c.loop-number-test.true in
    let less = c.in_ok-inside.ensures.left next.cell next.is_there in
    let left = less_left c.args.cells.now c.loop-number.cells c.inside_of.new.cells c.args.setting.now.order.now c.loop-number.number-index number next.cell (order_once design c.requires.valid.valid) next.is_placed next.is_there less c.loop-number.invariant.left in
    slice_get_within c.inside_of.new.cells number (shown_cell next.cell) (shown_is_there c.loop-number.cells c.inside_of.new.cells number next.cell next.is_there less)

pub cell_of-requires-clause-whole : goal.cell_of-requires-clause-whole
cell_of-requires-clause-whole c =
    let design = design_of c.args.setting.now c.args.cells.now in
    let number = get_or c.args.setting.now.order.now c.loop-number.number-index 0 in
    let next = next_cell design c.loop-number.cells c.loop-number.number-index 0 c.requires.valid.valid c.loop-number.invariant.left c.loop-number-test.true in
    let less = c.in_ok-inside.ensures.left next.cell next.is_there in
    let left = less_left c.args.cells.now c.loop-number.cells c.inside_of.new.cells c.args.setting.now.order.now c.loop-number.number-index number next.cell (order_once design c.requires.valid.valid) next.is_placed next.is_there less c.loop-number.invariant.left in
    λ shown there. whole_here next.cell shown c.in_ok-inside.inside.rest c.in_ok-inside.inside.instances (shown_there c.loop-number.cells c.inside_of.new.cells number next.cell shown next.is_there less there)
    (c.in_ok-inside.ensures.instances next.cell next.is_there) (c.in_ok-inside.ensures.nets next.cell next.is_there) (c.in_ok-inside.ensures.props next.cell next.is_there) c.inside_of.new.cells c.in_ok-classes.classes
    (good_left c.args.cells.now c.inside_of.new.cells c.args.setting.now.order.now (c.loop-number.number-index + 1) left next.cell (c.requires.valid.valid.good_cells number next.cell next.was_there))
    (c.in_ok-classes.ensures.classes next.cell next.is_there)

pub cell_of-requires-clause-plan : goal.cell_of-requires-clause-plan
cell_of-requires-clause-plan c =
    let design = design_of c.args.setting.now c.args.cells.now in
    let number = get_or c.args.setting.now.order.now c.loop-number.number-index 0 in
    let next = next_cell design c.loop-number.cells c.loop-number.number-index 0 c.requires.valid.valid c.loop-number.invariant.left c.loop-number-test.true in
    let less = c.in_ok-inside.ensures.left next.cell next.is_there in
    let left = less_left c.args.cells.now c.loop-number.cells c.inside_of.new.cells c.args.setting.now.order.now c.loop-number.number-index number next.cell (order_once design c.requires.valid.valid) next.is_placed next.is_there less c.loop-number.invariant.left in
    fits_left c.args.cells.now c.inside_of.new.cells c.args.setting.now.order.now (c.loop-number.number-index + 1) left c.args.setting.now.plan.now c.requires.fits

pub cell_of-requires-clause-constants : goal.cell_of-requires-clause-constants
cell_of-requires-clause-constants c =
    let next = next_cell (design_of c.args.setting.now c.args.cells.now) c.loop-number.cells c.loop-number.number-index 0 c.requires.valid.valid c.loop-number.invariant.left c.loop-number-test.true in
    λ value needed. c.requires.constants _ next.cell c.in_ok-classes.classes value next.was_there (c.in_ok-classes.ensures.classes next.cell next.is_there) needed

pub loop-number-preserved : goal.loop-number-preserved
loop-number-preserved c =
    let design = design_of c.args.setting.now c.args.cells.now in
    let number = get_or c.args.setting.now.order.now c.loop-number.number-index 0 in
    let next = next_cell design c.loop-number.cells c.loop-number.number-index 0 c.requires.valid.valid c.loop-number.invariant.left c.loop-number-test.true in
    let less = c.in_ok-inside.ensures.left next.cell next.is_there in
    let left = less_left c.args.cells.now c.loop-number.cells c.inside_of.new.cells c.args.setting.now.order.now c.loop-number.number-index number next.cell (order_once design c.requires.valid.valid) next.is_placed next.is_there less c.loop-number.invariant.left in
    let cells = c.inside_of.new.cells in
    let plan = c.args.setting.now.plan.now in
    let names = c.args.setting.now.constants.now in
    let classes = c.in_ok-classes.classes in
    let made = c.in_ok-cell.cell in
    let is_made = made_whole next.cell (shown_cell next.cell) c.in_ok-inside.inside.rest c.in_ok-inside.inside.instances refl
    (c.in_ok-inside.ensures.instances next.cell next.is_there) (c.in_ok-inside.ensures.nets next.cell next.is_there) (c.in_ok-inside.ensures.props next.cell next.is_there) names cells plan (head_of plan number) _ classes made
    (c.in_ok-cell.ensures (shown_cell next.cell) (shown_is_there c.loop-number.cells cells number next.cell next.is_there less)) in
    record {
      left = left;
      kept = kept_less c.loop-number.cells _ c.loop-number.kept.items _ number _ c.in_ok-classes.ensures.kept less c.loop-number.invariant.kept;
      cells = λ values first. one_cell names design plan values c.args.setting.now.order.now c.loop-number.number-index 0 c.loop-number.made.items _ made c.loop-number-test.true c.in_ok-push.ensures.items
          (made_of names design plan number classes made next.cell next.was_there (c.in_ok-classes.ensures.classes next.cell next.is_there)
          (subst (λ (props : List HProp). IsMadeUnder names c.args.cells.now plan (head_of plan number) next.cell props classes made) (props_behind design number next.cell _ c.design_props-props.ensures)
          (made_left c.args.cells.now cells c.args.setting.now.order.now (c.loop-number.number-index + 1) left names plan _ next.cell _ classes made is_made)))
          (c.loop-number.invariant.cells values first);
    }

pub returns : goal.returns
returns c = λ values first. all_cells c.args.setting.now.constants.now (design_of c.args.setting.now c.args.cells.now) c.args.setting.now.plan.now values c.args.setting.now.order.now c.args.setting.now.order.now c.loop-number.number-index c.loop-number.made.items refl (omega (arith, c.loop-number-test.false)) (c.loop-number.invariant.cells values first)
