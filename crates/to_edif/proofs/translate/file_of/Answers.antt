use Rattle.std.proofs.Common.{arith, Bool, List, ap, length, subst, sym, ◌∙◌}
use Rattle.net_hier.specs.Design.{IsCell}
use Rattle.edif_plans.specs.Plans.{HasHead, head_of}
use Rattle.edif_planning.proofs.ClassLaws.{cell_here}
use Rattle.to_edif.specs.Cells.{AreNewCells}
use Rattle.to_edif.proofs.CellLaws.{kept_all}
use Rattle.to_edif.proofs.FileLaws.{edif_for, file_value, has_constants, have_heads, named_after_top, planned_file}
use Rattle.to_edif.proofs.translate.file_of.Goals as goal

pub new_cells-requires : goal.new_cells-requires
new_cells-requires c = λ place lt.
    let same = ap length c.as_slice.ensures.value in
    have_heads c.args.constants.now c.args.hier c.cells.ensures.valid.valid c.args.planned.now.missing.items c.args.planned.now.plan c.requires.planned.is_plan place (omega (arith, lt, same))

pub with_cells-requires-clause-kept : goal.with_cells-requires-clause-kept
with_cells-requires-clause-kept c = kept_all c.args.hier.cells c.args.all.items c.in_ok-kept.kept.items c.in_ok-kept.ensures c.requires.classes

pub with_cells-requires-clause-constants : goal.with_cells-requires-clause-constants
with_cells-requires-clause-constants c = has_constants c.args.constants.now c.args.hier c.cells.ensures.valid.valid c.args.planned.now.missing.items c.args.planned.now.plan c.requires.planned.is_plan

pub head-head-requires : goal.head-head-requires
head-head-requires c = subst (HasHead c.args.planned.now.plan) (sym c.top-number.ensures.top) (c.requires.planned.fits.heads c.args.hier.top c.cells.ensures.valid.valid.has_top)

pub returns-clause-same : goal.returns-clause-same
returns-clause-same c =
    let new : AreNewCells c.args.constants.now c.args.planned.now.plan c.args.planned.now.missing.items c.in_ok-first.first.items =
    subst (λ (l : List Bool). AreNewCells c.args.constants.now c.args.planned.now.plan l c.in_ok-first.first.items) c.as_slice.ensures.value c.in_ok-first.ensures in
    let same = ap length c.cells.ensures.cells in
    let has_top = c.cells.ensures.valid.valid.has_top in
    let here : IsCell c.args.hier.cells c.top-number.result c.index-cells-number.result =
    cell_here c.args.hier.cells c.cells.result.now c.top-number.result c.index-cells-number.result c.index-cells-number.result c.cells.ensures.cells (omega (arith, same, has_top, c.top-number.ensures.top)) c.index-cells-number.is in
    edif_for c.args.constants.now c.args.hier c.in_ok-file.file c.zero-zero.ensures.checked c.cells.ensures.valid.valid
    (planned_file c.args.constants.now c.args.hier c.args.planned.now c.in_ok-cells.cells.items c.in_ok-name.name c.in_ok-design_name.design_name c.head-head.result.now.cell c.in_ok-file.file c.index-cells-number.result c.bytes-word.result.now c.requires.planned (c.in_ok-cells.ensures c.args.planned.now.missing.items new)
    (subst (λ n. IsCell c.args.hier.cells n c.index-cells-number.result) c.top-number.ensures.top here) c.bytes-word.ensures c.in_ok-name.ensures c.in_ok-design_name.ensures
    (ap (λ h. h.cell) c.head-head.ensures ∙ ap (λ n. (head_of c.args.planned.now.plan n).cell) c.top-number.ensures.top) c.in_ok-file.ensures)

pub returns-clause-planned : goal.returns-clause-planned
returns-clause-planned c =
    let new : AreNewCells c.args.constants.now c.args.planned.now.plan c.args.planned.now.missing.items c.in_ok-first.first.items =
    subst (λ (l : List Bool). AreNewCells c.args.constants.now c.args.planned.now.plan l c.in_ok-first.first.items) c.as_slice.ensures.value c.in_ok-first.ensures in
    let same = ap length c.cells.ensures.cells in
    let has_top = c.cells.ensures.valid.valid.has_top in
    let here : IsCell c.args.hier.cells c.top-number.result c.index-cells-number.result =
    cell_here c.args.hier.cells c.cells.result.now c.top-number.result c.index-cells-number.result c.index-cells-number.result c.cells.ensures.cells (omega (arith, same, has_top, c.top-number.ensures.top)) c.index-cells-number.is in
    planned_file c.args.constants.now c.args.hier c.args.planned.now c.in_ok-cells.cells.items c.in_ok-name.name c.in_ok-design_name.design_name c.head-head.result.now.cell c.in_ok-file.file c.index-cells-number.result c.bytes-word.result.now c.requires.planned (c.in_ok-cells.ensures c.args.planned.now.missing.items new)
    (subst (λ n. IsCell c.args.hier.cells n c.index-cells-number.result) c.top-number.ensures.top here) c.bytes-word.ensures c.in_ok-name.ensures c.in_ok-design_name.ensures
    (ap (λ h. h.cell) c.head-head.ensures ∙ ap (λ n. (head_of c.args.planned.now.plan n).cell) c.top-number.ensures.top) c.in_ok-file.ensures

pub returns-clause-value : goal.returns-clause-value
returns-clause-value c =
    let new : AreNewCells c.args.constants.now c.args.planned.now.plan c.args.planned.now.missing.items c.in_ok-first.first.items =
    subst (λ (l : List Bool). AreNewCells c.args.constants.now c.args.planned.now.plan l c.in_ok-first.first.items) c.as_slice.ensures.value c.in_ok-first.ensures in
    let same = ap length c.cells.ensures.cells in
    let has_top = c.cells.ensures.valid.valid.has_top in
    let here : IsCell c.args.hier.cells c.top-number.result c.index-cells-number.result =
    cell_here c.args.hier.cells c.cells.result.now c.top-number.result c.index-cells-number.result c.index-cells-number.result c.cells.ensures.cells (omega (arith, same, has_top, c.top-number.ensures.top)) c.index-cells-number.is in
    file_value c.args.constants.now c.args.hier c.args.planned.now c.in_ok-cells.cells.items c.in_ok-name.name c.in_ok-design_name.design_name c.head-head.result.now.cell c.in_ok-file.file c.index-cells-number.result c.bytes-word.result.now c.requires.planned
    (c.in_ok-cells.ensures c.args.planned.now.missing.items new) new.words c.stems_of.ensures (subst (λ n. IsCell c.args.hier.cells n c.index-cells-number.result) c.top-number.ensures.top here) c.bytes-word.ensures c.in_ok-name.ensures c.in_ok-design_name.ensures c.words_of.ensures.cell c.in_ok-file.ensures

pub returns-clause-named : goal.returns-clause-named
returns-clause-named c =
    let same = ap length c.cells.ensures.cells in
    let has_top = c.cells.ensures.valid.valid.has_top in
    let here : IsCell c.args.hier.cells c.top-number.result c.index-cells-number.result =
    cell_here c.args.hier.cells c.cells.result.now c.top-number.result c.index-cells-number.result c.index-cells-number.result c.cells.ensures.cells (omega (arith, same, has_top, c.top-number.ensures.top)) c.index-cells-number.is in
    named_after_top c.args.hier c.in_ok-cells.cells.items c.in_ok-name.name c.in_ok-design_name.design_name c.head-head.result.now.cell c.in_ok-file.file c.index-cells-number.result c.bytes-word.result.now
    (subst (λ n. IsCell c.args.hier.cells n c.index-cells-number.result) c.top-number.ensures.top here) c.bytes-word.ensures c.in_ok-name.ensures c.in_ok-design_name.ensures c.in_ok-file.ensures
