use Rattle.std.proofs.Common.{◌∙◌}
use Rattle.nl_base.proofs.RangeForm.{split-empty, split-no_bracket, split-bracket}
use Rattle.nl_base.proofs.split.base_and_range.Goals as goal

pub returns-in_err-close : goal.returns-in_err-close
returns-in_err-close c = c.from_residual.ensures ∙ split-empty c.args.text.now c.args.size c.in_err-close.ensures.cases

pub returns-in_err-bracket : goal.returns-in_err-bracket
returns-in_err-bracket c = c.from_residual-in_err-bracket.ensures ∙ split-no_bracket c.args.text.now c.in_ok-close.front.now c.in_ok-close.close.now c.args.size c.in_ok-close.ensures.cases.0 c.in_err-bracket.ensures

pub returns : goal.returns
returns c = c.opened.ensures ∙ split-bracket c.args.text.now c.in_ok-close.front.now c.in_ok-close.close.now c.args.size c.in_ok-bracket.bracket c.in_ok-close.ensures.cases.0 c.in_ok-bracket.ensures
