use Rattle.std.proofs.Common.{refl, subst}
use Rattle.nl_output.specs.Writing.{state, ToCome}
use Rattle.net_lint.proofs.OneLint.{same_lines}
use Rattle.net_lint.proofs.linting.put_findings.Goals as goal

pub returns : goal.returns
returns g c = λ paths of b rest h.
    let text = same_lines c.args.hier.now c.args.flat.now paths c.args.found.now.undriven.items c.args.found.now.floating.items c.args.found.now.firsts.items c.args.found.now.drivers
    c.as_slice-undriven.result.now c.as_slice-floating.result.now c.as_slice-firsts.result.now c.args.found.now.drivers rest
    c.as_slice-undriven.ensures.value c.as_slice-floating.ensures.value c.as_slice-firsts.ensures.value refl in
    c.put_sets.ensures paths of b rest
    (c.put_count-3.ensures b _
    (c.put_terminals-2.ensures paths of b _
    (c.put_count-2.ensures b _
    (c.put_terminals.ensures paths of b _
    (c.put_count.ensures b _
    (c.put_design.ensures b _
    (subst (ToCome b (state g.O.Sink.receipt c.args.sink.now c.args.output.now)) text h)))))))
