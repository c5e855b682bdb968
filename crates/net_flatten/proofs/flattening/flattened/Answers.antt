use Rattle.std.proofs.Common.{ℕ, ◌-◌, ◌≤◌, length, sym, subst, subst₂, ◌∙◌}
use Rattle.flat_report.proofs.OneReport.{some_paths}
use Rattle.net_flatten.proofs.Fits.{no_recursion}
use Rattle.net_flatten.proofs.UnitLaws.{units_few}
use Rattle.net_flatten.proofs.Whole.{cells_fit}
use Rattle.net_flatten_refusals.proofs.ShortLaws.{own_names}
use Rattle.net_graph.specs.Graph.{ReachesItself}
use Rattle.net_hier.specs.Build.{IsBuilt}
use Rattle.net_hier.specs.Design.{cells_below}
use Rattle.net_hier.specs.Units.{units}
use Rattle.net_hier.specs.Valid.{CellsFit, unit_limit}
use Rattle.net_flatten.proofs.flattening.flattened.Goals as goal

pub design_of-requires-clause-fits : goal.design_of-requires-clause-fits
design_of-requires-clause-fits c =
    let p = some_paths c.args.hier.now c.props.ensures.valid.valid c.args.flat.now.spots c.requires.classes.1.are_spots in
    subst (λ cs. CellsFit cs (length cs - 1)) (sym (c.in_ok-cells.ensures p.0 p.1))
    (cells_fit c.requires.classes.0 c.args.hier.now c.props.ensures.valid c.requires.few c.args.flat.now c.requires.classes.1 p.0 (own_names c.args.hier.now p.0 c.args.flat.now (c.requires.kept p.0 p.1)))

pub design_of-requires-clause-free : goal.design_of-requires-clause-free
design_of-requires-clause-free c =
    let p = some_paths c.args.hier.now c.props.ensures.valid.valid c.args.flat.now.spots c.requires.classes.1.are_spots in
    subst (λ cs. (number : ℕ) → ¬ ReachesItself (cells_below cs) number) (sym (c.in_ok-cells.ensures p.0 p.1))
    (no_recursion c.requires.classes.0 c.args.hier.now c.props.ensures.valid c.requires.few c.args.flat.now c.requires.classes.1 p.0)

pub design_of-requires-clause-few : goal.design_of-requires-clause-few
design_of-requires-clause-few c =
    let p = some_paths c.args.hier.now c.props.ensures.valid.valid c.args.flat.now.spots c.requires.classes.1.are_spots in
    subst (λ cs. units cs ≤ unit_limit) (sym (c.in_ok-cells.ensures p.0 p.1))
    (units_few c.requires.classes.0 c.args.hier.now c.props.ensures.valid c.requires.few c.args.flat.now c.requires.classes.1 p.0)

pub returns : goal.returns
returns c = λ paths of. subst₂ (λ cs ps. IsBuilt cs (length cs - 1) ps c.in_ok-design.design) (c.in_ok-cells.ensures paths of) (c.in_ok-props.ensures ∙ c.props.ensures.props) c.in_ok-design.ensures
