use Rattle.nl_base.proofs.RangeForm.{told}
use Rattle.nl_base.proofs.split.split_range.Goals as goal

pub returns-clause-some : goal.returns-clause-some
returns-clause-some c = (told c.args.text.now c.args.size c.base_and_range.result c.base_and_range.ensures).0

pub returns-clause-within : goal.returns-clause-within
returns-clause-within c = (told c.args.text.now c.args.size c.base_and_range.result c.base_and_range.ensures).1

pub returns-clause-none : goal.returns-clause-none
returns-clause-none c = (told c.args.text.now c.args.size c.base_and_range.result c.base_and_range.ensures).2
