use Rattle.flat_numbers.proofs.Forests.{under_way_ends, under_way_less, under_way_more}
use Rattle.flat_numbers.proofs.linked.root_of.Goals as goal

pub loop-parents-smaller : goal.loop-parents-smaller
loop-parents-smaller c = under_way_less c.args.parents.now c.loop-parents.parents c.args.number c.loop-parents.at c.requires.labels.0 c.requires.labels.1 c.loop-parents.invariant c.loop-parents-test.true

pub loop-parents-preserved : goal.loop-parents-preserved
loop-parents-preserved c = under_way_more c.args.parents.now c.loop-parents.parents c.args.number c.loop-parents.at c.requires.labels.0 c.requires.labels.1 c.loop-parents.invariant c.loop-parents-test.true

pub returns-clause-root : goal.returns-clause-root
returns-clause-root c = under_way_ends c.args.parents.now c.loop-parents.parents c.args.number c.loop-parents.at c.loop-parents.invariant c.loop-parents-test.false
