use Rattle.std.proofs.Common.{[], subst, sym}
use Rattle.to_spice.specs.Calls.{AreSubcktsOf}
use Rattle.to_spice.proofs.Making.{all_there, more_there, none_there}
use Rattle.to_spice.proofs.Order.{number_there}
use Rattle.to_spice.proofs.Whole.{spice_for}
use Rattle.to_spice.proofs.translate.file_of.Goals as goal

pub loop-number-init : goal.loop-number-init
loop-number-init c = subst (AreSubcktsOf c.args.hier.now []) (sym c.empty-cells.ensures) (none_there c.args.hier.now)

pub subckt_of-requires : goal.subckt_of-requires
subckt_of-requires c = number_there c.args.hier.now c.order-order.ensures.valid.valid c.order-order.result.now c.loop-number.number-index 0 c.order-order.ensures.order c.loop-number-test.true

pub loop-number-preserved : goal.loop-number-preserved
loop-number-preserved c =
    more_there c.args.hier.now c.order-order.result.now c.loop-number.number-index 0 c.loop-number.cells _ c.in_ok-subckt.subckt c.loop-number-test.true c.loop-number.invariant c.in_ok-push.ensures.added c.in_ok-subckt.ensures

pub returns : goal.returns
returns c =
    spice_for c.args.hier.now c.order-order.ensures.valid.valid c.requires c.loop-number.cells (subst (λ l. AreSubcktsOf c.args.hier.now l c.loop-number.cells) c.order-order.ensures.order
    (all_there c.args.hier.now c.order-order.result.now c.loop-number.number-index c.loop-number.cells c.loop-number-test.false c.loop-number.invariant))
