use Rattle.std.proofs.Common.{◌≡◌, ◌<◌, [], ◌∷◌, ◌++◌, ap, subst, sym, ◌∙◌, get_or, length, slice_get, Some, arith}
use Rattle.std.proofs.lemmas.Option.{slice_get-get_or, slice_get_within}
use Rattle.edif_writer.specs.Strings.{quoted}
use Rattle.net_hier.specs.Design.{IsCell}
use Rattle.net_hier.specs.declared.cells.HCell.{HCell}
use Rattle.nl_output.specs.Writing.{state, ToCome}
use Rattle.flat_numbers.specs.declared.spots.Spot.{Spot}
use Rattle.flat_numbers.proofs.Reading.{element_read}
use Rattle.flat_classes.specs.Terminals.{cell_of}
use Rattle.flat_report.specs.Report.{name_then, path_then}
use Rattle.flat_classes.specs.Ways.{path_at}
use Rattle.flat_report.proofs.OneReport.{listed_path}
use Rattle.flat_report.proofs.TerminalFacts.{cell_at, name_read}
use Rattle.flat_report.proofs.reporting.put_leaf.Goals as goal

pub bounds-cells-cell : goal.bounds-cells-cell
bounds-cells-cell g c =
    let at = cell_at c.requires.spots c.args.leaf (record { parent = 0; instance = 0; cell = 0 }) c.requires.leaf in
    let lt = slice_get_within c.args.hier.now.cells (get_or c.args.spots.now c.args.leaf (record { parent = 0; instance = 0; cell = 0 })).cell at.0 at.1 in
    let e = ap length c.cells-cells.ensures.cells in
    omega (arith, lt, e)

pub returns : goal.returns
returns g c = λ paths of b rest h.
    let spot : Spot = get_or c.args.spots.now c.args.leaf (record { parent = 0; instance = 0; cell = 0 }) in
    let there : slice_get c.args.spots.now c.args.leaf ≡ Some spot = slice_get-get_or c.args.spots.now c.args.leaf (record { parent = 0; instance = 0; cell = 0 }) c.requires.leaf in
    let at = cell_at c.requires.spots c.args.leaf (record { parent = 0; instance = 0; cell = 0 }) c.requires.leaf in
    let lt = slice_get_within c.args.hier.now.cells spot.cell at.0 at.1 in
    let e = ap length c.cells-cells.ensures.cells in
    let is : IsCell c.args.hier.now.cells spot.cell c.index-cells-cell.result = subst (λ cs. slice_get cs spot.cell ≡ Some c.index-cells-cell.result) c.cells-cells.ensures.cells (element_read c.cells-cells.result.now spot.cell c.index-cells-cell.result (omega (arith, lt, e)) c.index-cells-cell.is) in
    let name = name_read c.args.hier.now.cells c.args.spots.now c.args.leaf spot c.index-cells-cell.result c.bytes.result.now (10 ∷ rest) there is (c.bytes.ensures ∙ ap (λ (w : HCell). w.name) (sym c.index-cells-cell.is)) in
    c.put-3.ensures b rest
    (c.write_string.ensures b (10 ∷ rest)
    (subst (ToCome b (state g.O.Sink.receipt c.put-2.new.sink c.put-2.new.self)) name
    (c.put-2.ensures b (name_then (cell_of c.args.hier.now.cells (slice_get c.args.spots.now c.args.leaf)) (10 ∷ rest))
    (c.put_path.ensures (path_at paths c.args.leaf) (listed_path c.args.hier.now c.cells-cells.ensures.valid.valid c.args.spots.now c.requires.spots paths of c.args.leaf c.requires.leaf) b (32 ∷ name_then (cell_of c.args.hier.now.cells (slice_get c.args.spots.now c.args.leaf)) (10 ∷ rest))
    (c.put.ensures b (path_then (path_at paths c.args.leaf) (32 ∷ name_then (cell_of c.args.hier.now.cells (slice_get c.args.spots.now c.args.leaf)) (10 ∷ rest))) h)))))
