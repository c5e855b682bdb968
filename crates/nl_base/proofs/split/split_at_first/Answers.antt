use Rattle.nl_base.proofs.Cuts.{cut_first-none, cut_first-place}
use Rattle.nl_base.proofs.split.split_at_first.Goals as goal

pub returns-in_err-at : goal.returns-in_err-at
returns-in_err-at c = rw c.from_residual.ensures (cut_first-none c.args.byte c.args.bytes.now c.in_err-at.ensures)

pub returns : goal.returns
returns c = cut_first-place c.args.byte c.args.bytes.now c.in_ok-at.at c.in_ok-at.ensures.0 c.in_ok-at.ensures.1 c.in_ok-at.ensures.2
