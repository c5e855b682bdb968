use Rattle.std.proofs.Common.{◌∙◌, sym}
use Rattle.vlog_rules.proofs.Clashes.{port_here, port_none, port_there}
use Rattle.vlog_rules.proofs.repeats.first_named_again.Goals as goal

pub returns-then-is_named : goal.returns-then-is_named
returns-then-is_named c =
    sym (sym c.loop-place.invariant
    ∙ port_here c.args.conns.now c.loop-place.place c.index-conns-place.result c.bytes-port.result.now c.bytes-port.ensures c.loop-place-test.true c.if-is_named.ensures)

pub loop-place-preserved : goal.loop-place-preserved
loop-place-preserved c =
    port_there c.args.conns.now c.loop-place.place c.index-conns-place.result c.bytes-port.result.now c.bytes-port.ensures c.loop-place-test.true c.if-is_named.ensures ∙ c.loop-place.invariant

pub returns : goal.returns
returns c = sym (sym c.loop-place.invariant ∙ port_none c.args.conns.now c.loop-place.place c.loop-place-test.false)
