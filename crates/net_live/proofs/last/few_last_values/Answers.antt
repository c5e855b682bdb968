use Rattle.net_live.proofs.LastLaws.{few_end, few_turn}
use Rattle.net_live.proofs.last.few_last_values.Goals as goal

pub loop-place-preserved : goal.loop-place-preserved
loop-place-preserved c = few_turn c.args.props.now c.loop-place.place c.index-props-place.result c.index-props-place.result _ _ c.loop-place-test.true c.index-props-place.is c.loop-place.invariant c.in_ok-add_last.ensures

pub returns : goal.returns
returns c = few_end c.args.props.now c.loop-place.place _ c.loop-place-test.false c.loop-place.invariant
