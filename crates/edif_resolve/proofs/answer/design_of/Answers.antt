use Rattle.std.proofs.Common.{◌≡◌, ◌≤◌, ◌∙◌, Ok, ap, refl, sym, subst, length, arith}
use Rattle.std.specs.List.{flat_map}
use Rattle.net_hier.specs.Build.{IsFaultOf}
use Rattle.net_hier.specs.Valid.{CellsFit}
use Rattle.edif_design.specs.Design.{counts_from, design_properties, edif_cells, edif_top}
use Rattle.edif_design.specs.Reach.{reached_marks}
use Rattle.edif_resolve.proofs.Answering.{answered, built_answered, fault_answered, marks_few}
use Rattle.edif_resolve.proofs.Building.{top_is}
use Rattle.edif_resolve.proofs.FewParts.{cells_fit}
use Rattle.edif_resolve.proofs.answer.design_of.Goals as goal

pub counts_of-requires : goal.counts_of-requires
counts_of-requires c =
    let few : length (reached_marks c.args.tabled.now) ≤ 268435456 = marks_few c.args.tabled.now 268435456 c.requires.small in
    let same : length c.marks.result.now ≡ length (reached_marks c.args.tabled.now) = ap length c.marks.ensures in
    omega (arith, few, same)

pub design_cells-requires-clause-numbers : goal.design_cells-requires-clause-numbers
design_cells-requires-clause-numbers c = c.as_slice-numbers.ensures.value ∙ (c.in_ok-counts.ensures ∙ ap (counts_from 0) c.marks.ensures)

pub build-requires : goal.build-requires
build-requires c =
    let file = c.args.tabled.now in
    let numbers = c.as_slice-numbers.ensures.value ∙ (c.in_ok-counts.ensures ∙ ap (counts_from 0) c.marks.ensures) in
    let is_top : c.design_top-top.result ≡ edif_top file = c.design_top-top.ensures ∙ top_is file c.as_slice-numbers.result.now numbers in
    subst (λ cells. CellsFit cells c.design_top-top.result) (sym c.in_ok-cells.ensures) (subst (CellsFit (edif_cells file)) (sym is_top) (cells_fit file c.requires.clean c.requires.small))

pub fault_of-requires-clause-numbers : goal.fault_of-requires-clause-numbers
fault_of-requires-clause-numbers c = c.as_slice-numbers.ensures.value ∙ (c.in_ok-counts.ensures ∙ ap (counts_from 0) c.marks.ensures)

pub fault_of-requires-clause-fault : goal.fault_of-requires-clause-fault
fault_of-requires-clause-fault c = subst (λ cells. IsFaultOf cells c.in-Err.fault) c.in_ok-cells.ensures c.in-Err.ensures

pub returns-in-Ok : goal.returns-in-Ok
returns-in-Ok c =
    let file = c.args.tabled.now in
    let numbers = c.as_slice-numbers.ensures.value ∙ (c.in_ok-counts.ensures ∙ ap (counts_from 0) c.marks.ensures) in
    let is_top : c.design_top-top.result ≡ edif_top file = c.design_top-top.ensures ∙ top_is file c.as_slice-numbers.result.now numbers in
    let fit : CellsFit c.in_ok-cells.cells c.design_top-top.result =
    subst (λ cells. CellsFit cells c.design_top-top.result) (sym c.in_ok-cells.ensures) (subst (CellsFit (edif_cells file)) (sym is_top) (cells_fit file c.requires.clean c.requires.small)) in
    answered file c.requires.clean c.in_ok-cells.cells c.in_ok-cells.ensures c.design_top-top.result c.in_ok-props.props (Ok c.in-Ok.hier) is_top
    (c.in_ok-props.ensures ∙ ap (flat_map design_properties) c.requires.designs) (built_answered c.in_ok-cells.cells c.design_top-top.result c.in_ok-props.props c.in-Ok.hier fit c.in-Ok.ensures)

pub returns : goal.returns
returns c = fault_answered c.args.tabled.now c.requires.clean (edif_cells c.args.tabled.now) refl c.fault_of.result c.fault_of.ensures
