use Rattle.std.proofs.Common.{◌∙◌, ap, not, sym}
use Rattle.vlog_checked.proofs.LookLaws.{free_alone}
use Rattle.vlog_checked.proofs.looks.is_free_alone.Goals as goal

pub returns : goal.returns
returns c = λ none.
    free_alone c.args.scope.now.module.now c.args.wrong c.in_ok-wide.wide c.in_ok-other.other c.requires c.if-wrong.false
    c.in_ok-wide.ensures (sym c.is_some.ensures ∙ c.if-is_some.false) c.in_ok-other.ensures (c.is_none.ensures ∙ ap not none)
