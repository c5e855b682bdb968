use Rattle.nl_base.proofs.Cuts.{cut_first-none, cut_first-place}
use Rattle.vlog_values.proofs.spelled.split_at_quote.Goals as goal

pub returns-in_err-at : goal.returns-in_err-at
returns-in_err-at c = rw c.from_residual.ensures (cut_first-none 39 c.args.bytes.now c.in_err-at.ensures)

pub returns : goal.returns
returns c = cut_first-place 39 c.args.bytes.now c.in_ok-at.at c.in_ok-at.ensures.0 c.in_ok-at.ensures.1 c.in_ok-at.ensures.2
