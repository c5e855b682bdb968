use Rattle.std.proofs.Common.{arith, ◌<◌, ap, length, subst, sym, ◌∙◌}
use Rattle.edif_plans.specs.Made.{new_cell_for}
use Rattle.edif_value_laws.specs.Named.{HasWords}
use Rattle.to_edif.proofs.CellLaws.{all_new, head_here, one_new}
use Rattle.to_edif.proofs.cells.new_cells.Goals as goal

pub bounds-heads-place : goal.bounds-heads-place
bounds-heads-place c = let same = ap length c.items-heads.ensures in let head = (c.requires c.loop-place.place c.loop-place-test.true).is_there in omega (arith, same, head)

pub new_cell-requires : goal.new_cell-requires
new_cell-requires c =
    let same = ap length c.items-heads.ensures in
    let head = (c.requires c.loop-place.place c.loop-place-test.true).is_there in
    subst (λ h. 0 < length h.ports) (sym (head_here c.args.plan.now c.items-heads.result.now c.loop-place.place c.index-heads-place.result c.index-heads-place.result c.items-heads.ensures (omega (arith, same, head)) c.index-heads-place.is))
    (c.requires c.loop-place.place c.loop-place-test.true).has_port

pub loop-place-preserved : goal.loop-place-preserved
loop-place-preserved c =
    let same = ap length c.items-heads.ensures in
    let head = (c.requires c.loop-place.place c.loop-place-test.true).is_there in
    let here = head_here c.args.plan.now c.items-heads.result.now c.loop-place.place c.index-heads-place.result c.index-heads-place.result c.items-heads.ensures (omega (arith, same, head)) c.index-heads-place.is in
    one_new c.args.constants.now c.args.plan.now c.args.values.now c.loop-place.place _ c.loop-place.made.items _ c.in_ok-cell.cell c.loop-place-test.true c.loop-place.invariant c.in_ok-push.ensures.items
    (c.in_ok-cell.ensures ∙ (λ j. new_cell_for (here j) (c.name_of-constant.ensures j))) (subst HasWords here c.words_of.ensures)

pub returns : goal.returns
returns c = all_new c.args.constants.now c.args.plan.now c.args.values.now c.loop-place.place c.loop-place.made.items (omega (arith, c.loop-place-test.false)) c.loop-place.invariant
