use Rattle.std.proofs.Common.{arith}
use Rattle.edif_values.specs.Values.{ArePortItems}
use Rattle.edif_nets.proofs.Kept.{port_items_more}
use Rattle.edif_nets.proofs.Parts.{port_loops}
use Rattle.edif_nets.specs.Grammar.{port_rest}
use Rattle.edif_nets.proofs.port.port_rest.Goals as goal

pub loop-items-init : goal.loop-items-init
unfolding port_rest
loop-items-init g c = grind (arith, port_loops)

pub returns-in_err-at_form-clause-reads : goal.returns-in_err-at_form-clause-reads
unfolding port_rest
returns-in_err-at_form-clause-reads g c = grind (arith, port_loops)

pub returns-in_err-item-clause-reads : goal.returns-in_err-item-clause-reads
unfolding port_rest
returns-in_err-item-clause-reads g c = grind (arith, port_loops)

pub loop-items-smaller : goal.loop-items-smaller
unfolding port_rest
loop-items-smaller g c = grind (arith, port_loops)

pub loop-items-preserved : goal.loop-items-preserved
unfolding port_rest
loop-items-preserved g c =
    let good : ArePortItems c.add_inline.new.list =
    rw c.in_ok-add_inline.ensures.added.0
    (port_items_more c.loop-items.items c.in_ok-item.item c.loop-items.directed c.loop-items.invariant.0.good c.in_ok-item.ensures.value c.loop-items.invariant.1 c.in_ok-item.ensures.one) in
    grind (arith, port_loops)

pub returns-in_err-add_inline-clause-reads : goal.returns-in_err-add_inline-clause-reads
unfolding port_rest
returns-in_err-add_inline-clause-reads g c = grind (arith, port_loops)

pub returns-in_err-finish_form-clause-reads : goal.returns-in_err-finish_form-clause-reads
unfolding port_rest
returns-in_err-finish_form-clause-reads g c = grind (arith, port_loops)

pub returns-clause-reads : goal.returns-clause-reads
unfolding port_rest
returns-clause-reads g c = grind (arith, port_loops)
