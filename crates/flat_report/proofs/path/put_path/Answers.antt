use Rattle.std.proofs.Common.{◌≡◌, ◌≤◌, ap, subst, sym, ◌∙◌, length, map, take, arith}
use Rattle.std.specs.Prelude.{Contains}
use Rattle.std.proofs.lemmas.List.{length-take-le}
use Rattle.nl_output.specs.Writing.{state, ToCome}
use Rattle.flat_report.specs.Report.{path_then}
use Rattle.flat_classes.specs.Ways.{instance_name}
use Rattle.flat_classes.proofs.WayLaws.{some_way, way_of_path}
use Rattle.flat_report.proofs.path.put_path.Goals as goal

pub way_up-count-requires : goal.way_up-count-requires
way_up-count-requires g c =
    let w = some_way c.args.hier.now c.cells-cells.ensures.valid.valid c.args.spots.now c.requires.spots c.args.spot c.requires.spot in
    (w.2, w.3, omega (arith, w.4, c.requires.room))

pub slice_bounds-put_way-end : goal.slice_bounds-put_way-end
slice_bounds-put_way-end g c =
    let w = some_way c.args.hier.now c.cells-cells.ensures.valid.valid c.args.spots.now c.requires.spots c.args.spot c.requires.spot in
    let e = c.way_up-count.ensures.count w.2 w.3 in
    omega (arith, e, w.4, c.requires.room, c.way_up-count.auto.room)

pub slice_bounds-put_way-end-2 : goal.slice_bounds-put_way-end-2
slice_bounds-put_way-end-2 g c =
    let w = some_way c.args.hier.now c.cells-cells.ensures.valid.valid c.args.spots.now c.requires.spots c.args.spot c.requires.spot in
    let e = c.way_up-count.ensures.count w.2 w.3 in
    let le : c.way_up-count.result ≤ length c.way_up-count.new.room = omega (arith, e, w.4, c.requires.room, c.way_up-count.auto.room) in
    sym (length-take-le c.way_up-count.result c.way_up-count.new.room le)

pub put_way-requires : goal.put_way-requires
put_way-requires g c = λ number in_way.
    let w = some_way c.args.hier.now c.cells-cells.ensures.valid.valid c.args.spots.now c.requires.spots c.args.spot c.requires.spot in
    let o = way_of_path c.args.hier.now c.cells-cells.ensures.valid.valid c.args.spots.now c.requires.spots w.0 c.args.spot w.1 in
    o.inner number (subst (λ ws. Contains ws number) (c.way_up-count.ensures.way o.way o.is_way) in_way)

pub returns : goal.returns
returns g c = λ path at b rest h.
    let o = way_of_path c.args.hier.now c.cells-cells.ensures.valid.valid c.args.spots.now c.requires.spots path c.args.spot at in
    let text = ap (λ ws. path_then (map (instance_name c.args.hier.now.cells c.args.spots.now) ws) rest) (c.way_up-count.ensures.way o.way o.is_way) ∙ ap (λ p. path_then p rest) o.names in
    c.put_way.ensures b rest (subst (ToCome b (state g.O.Sink.receipt c.args.sink.now c.args.output.now)) (sym text) h)
