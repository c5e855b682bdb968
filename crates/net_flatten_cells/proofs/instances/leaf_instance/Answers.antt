use Rattle.std.proofs.Common.{ap, ◌∙◌, arith}
use Rattle.flat_report.proofs.OneReport.{listed_path}
use Rattle.flat_classes.specs.Ways.{path_at}
use Rattle.net_flatten_rules.specs.FlatDesign.{place_in}
use Rattle.net_flatten_cells.proofs.InstanceLaws.{leaf_made, leaf_read}
use Rattle.net_flatten_cells.proofs.instances.leaf_instance.Goals as goal

pub place-cell-requires : goal.place-cell-requires
place-cell-requires c =
    let r = leaf_read c.args.hier.now c.args.spots.now c.requires.spots c.args.leaf c.requires.leaf (record { parent = 0; instance = 0; cell = 0 }) in
    omega (arith, r.cell_within, c.requires.count)

pub returns : goal.returns
returns c = λ paths of.
    let r = leaf_read c.args.hier.now c.args.spots.now c.requires.spots c.args.leaf c.requires.leaf (record { parent = 0; instance = 0; cell = 0 }) in
    leaf_made c.args.hier.now.cells c.args.spots.now paths c.args.cells.now.numbers c.args.leaf c.in_ok-name.name c.place-cell.result c.in_ok-props.props
    (c.in_ok-name.ensures ∙ c.in_ok-joined.ensures (path_at paths c.args.leaf) (listed_path c.args.hier.now c.cells-cells.ensures.valid.valid c.args.spots.now c.requires.spots paths of c.args.leaf r.within))
    (c.place-cell.ensures ∙ ap (place_in c.args.cells.now.numbers) r.is)
    c.in_ok-props.ensures
