use Rattle.std.proofs.Common.{◌+◌, ◌++◌, ap, arith, ◌∙◌}
use Rattle.std.specs.Prelude.{slice_range}
use Rattle.flat_numbers.specs.Layout.{base_of}
use Rattle.flat_numbers.specs.Tables.{rows_in}
use Rattle.flat_classes.proofs.PortLabels.{bits_read, ports_fit}
use Rattle.flat_classes.proofs.groups.push_labels.Goals as goal

pub overflow_add-from : goal.overflow_add-from
overflow_add-from c =
    let r = bits_read c.args.hier.now c.requires.are_tables.0 c.args.tables.now.layout c.args.tables.now.belows (rows_in c.args.tables.now.offsets.items) c.requires.are_tables.1 c.requires.are_tables.2 c.args.spot c.requires.spot.0 c.requires.spot.1
    c.index.result.now c.cells-cells.result.now c.index-cells-cell.result c.index-2.result.now c.bits_of_ports-bits.result c.cells-cells.ensures.cells c.index.ensures c.index-cells-cell.is c.index-2.ensures c.bits_of_ports-bits.ensures in
    let fits = ports_fit c.args.hier.now c.requires.are_tables.0 c.args.tables.now.layout c.args.tables.now.belows (rows_in c.args.tables.now.offsets.items) c.requires.are_tables.1 c.args.spot c.requires.spot.0 c.requires.spot.1 in
    omega (arith, r.0, r.1, fits, c.requires.are_tables.1.is_layout.few, c.requires.are_tables.2)

pub slice_bounds-extend_from_slice-end : goal.slice_bounds-extend_from_slice-end
slice_bounds-extend_from_slice-end c =
    let r = bits_read c.args.hier.now c.requires.are_tables.0 c.args.tables.now.layout c.args.tables.now.belows (rows_in c.args.tables.now.offsets.items) c.requires.are_tables.1 c.requires.are_tables.2 c.args.spot c.requires.spot.0 c.requires.spot.1
    c.index.result.now c.cells-cells.result.now c.index-cells-cell.result c.index-2.result.now c.bits_of_ports-bits.result c.cells-cells.ensures.cells c.index.ensures c.index-cells-cell.is c.index-2.ensures c.bits_of_ports-bits.ensures in
    let fits = ports_fit c.args.hier.now c.requires.are_tables.0 c.args.tables.now.layout c.args.tables.now.belows (rows_in c.args.tables.now.offsets.items) c.requires.are_tables.1 c.args.spot c.requires.spot.0 c.requires.spot.1 in
    omega (arith, r.0, r.1, fits, c.requires.labels)

pub returns : goal.returns
returns c =
    let r = bits_read c.args.hier.now c.requires.are_tables.0 c.args.tables.now.layout c.args.tables.now.belows (rows_in c.args.tables.now.offsets.items) c.requires.are_tables.1 c.requires.are_tables.2 c.args.spot c.requires.spot.0 c.requires.spot.1
    c.index.result.now c.cells-cells.result.now c.index-cells-cell.result c.index-2.result.now c.bits_of_ports-bits.result c.cells-cells.ensures.cells c.index.ensures c.index-cells-cell.is c.index-2.ensures c.bits_of_ports-bits.ensures in
    c.in_ok-extend_from_slice.ensures.items
    ∙ (ap (λ from. c.args.found.now.items ++ slice_range c.args.labels.now from (from + c.bits_of_ports-bits.result)) r.0
    ∙ ap (λ bits. c.args.found.now.items ++ slice_range c.args.labels.now (base_of c.args.tables.now.layout.bases.items c.args.tables.now.layout.count c.args.spot) (base_of c.args.tables.now.layout.bases.items c.args.tables.now.layout.count c.args.spot + bits)) r.1)
