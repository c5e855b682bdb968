use Rattle.std.proofs.Common.{arith}
use Rattle.flat_numbers.proofs.Forests.{settled_more}
use Rattle.flat_numbers.proofs.linked.settle.Goals as goal

pub loop-number-preserved : goal.loop-number-preserved
loop-number-preserved c = settled_more c.args.parents.now c.loop-number.parents c.loop-number.number (omega (arith, c.loop-number-test.true, c.loop-number.invariant.len)) c.loop-number.invariant
