use Rattle.std.proofs.Common.{◌≡◌, ◌<◌, ◌-◌, ◌++◌, suc, get_or, length, map, take, ap, subst, sym, ◌∙◌, arith}
use Rattle.std.specs.Prelude.{codes}
use Rattle.edif_writer.specs.Strings.{quoted}
use Rattle.nl_output.specs.Writing.{state, ToCome}
use Rattle.flat_report.specs.Report.{names_then}
use Rattle.flat_classes.specs.Ways.{instance_name}
use Rattle.flat_report.proofs.PathTexts.{names_taken}
use Rattle.flat_report.proofs.path.put_above.Goals as goal

pub loop-place-preserved : goal.loop-place-preserved
loop-place-preserved g c = record {
  within = omega (arith, c.loop-place.invariant.within);
  to_come = λ b rest h.
      let lt : c.loop-place.place - 1 < length c.args.above.now = omega (arith, c.loop-place.invariant.within, c.loop-place-test.true) in
      let z : c.loop-place.place ≡ suc (c.loop-place.place - 1) = omega (arith, c.loop-place-test.true) in
      let text = ap (λ n. names_then (map (instance_name c.args.hier.now.cells c.args.spots.now) (take n c.args.above.now)) rest) z
      ∙ (names_taken (instance_name c.args.hier.now.cells c.args.spots.now) c.args.above.now (c.loop-place.place - 1) rest lt
      ∙ ap (λ n. quoted n (codes "/" ++ names_then (map (instance_name c.args.hier.now.cells c.args.spots.now) (take (c.loop-place.place - 1) c.args.above.now)) rest)) (sym c.instance_name.ensures)) in
      c.put.ensures b (names_then (map (instance_name c.args.hier.now.cells c.args.spots.now) (take (c.loop-place.place - 1) c.args.above.now)) rest)
      (c.write_string.ensures b (codes "/" ++ names_then (map (instance_name c.args.hier.now.cells c.args.spots.now) (take (c.loop-place.place - 1) c.args.above.now)) rest)
      (subst (ToCome b (state g.O.Sink.receipt c.loop-place.sink c.loop-place.output)) text (c.loop-place.invariant.to_come b rest h)));
}
