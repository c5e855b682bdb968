use Rattle.std.proofs.Common.{◌≡◌, ◌++◌, Some, [], subst, sym}
use Rattle.std.specs.Prelude.{slice_get}
use Rattle.net_hier.specs.declared.cells.HCell.{HCell}
use Rattle.edif_plans.specs.Made.{IsMadeUnder}
use Rattle.edif_plans.specs.Plans.{HasPorts, head_of}
use Rattle.edif_plans.proofs.Lists.{is_at}
use Rattle.edif_making.specs.Whole.{whole_cell}
use Rattle.edif_making.proofs.CellLaws.{same_item}
use Rattle.edif_making.proofs.made.cell_of.Goals as goal

pub head-head-requires : goal.head-head-requires
head-head-requires c = c.requires.plan.heads c.args.number c.requires.cell

pub cell_under-requires-clause-ports : goal.cell_under-requires-clause-ports
cell_under-requires-clause-ports c =
    let there : slice_get c.args.cells.now c.args.number ≡ Some c.index-cells-place.result = is_at c.args.cells.now c.args.number c.index-cells-place.result c.index-cells-place.result c.requires.cell c.index-cells-place.is in
    subst (λ h. HasPorts h c.index-cells-place.result) (sym c.head-head.ensures) (c.requires.plan.ports c.args.number c.index-cells-place.result there)

pub cell_under-requires-clause-whole : goal.cell_under-requires-clause-whole
cell_under-requires-clause-whole c =
    let there : slice_get c.args.cells.now c.args.number ≡ Some c.index-cells-place.result = is_at c.args.cells.now c.args.number c.index-cells-place.result c.index-cells-place.result c.requires.cell c.index-cells-place.is in
    c.requires.whole c.index-cells-place.result there

pub returns : goal.returns
returns c =
    let there : slice_get c.args.cells.now c.args.number ≡ Some c.index-cells-place.result = is_at c.args.cells.now c.args.number c.index-cells-place.result c.index-cells-place.result c.requires.cell c.index-cells-place.is in
    let inside = c.args.inside.now in
    λ shown is. subst (λ (d : HCell). IsMadeUnder c.args.constants.now c.args.cells.now c.args.plan.now (head_of c.args.plan.now c.args.number) (whole_cell d c.args.own inside []) (inside.props ++ c.args.design_props.now) c.args.classes c.in_ok-made.made)
    (same_item (slice_get c.args.cells.now c.args.number) c.index-cells-place.result shown there is)
    (subst (λ h. IsMadeUnder c.args.constants.now c.args.cells.now c.args.plan.now h (whole_cell c.index-cells-place.result c.args.own inside []) (inside.props ++ c.args.design_props.now) c.args.classes c.in_ok-made.made) c.head-head.ensures c.in_ok-made.ensures)
