use Rattle.vlog_elab.proofs.Answering.{answered_shown, can_shown, fit_shown, free_shown, units_shown}
use Rattle.vlog_elab.proofs.answer.elaborate.Goals as goal

pub design_of-requires-clause-can : goal.design_of-requires-clause-can
design_of-requires-clause-can c = can_shown c.args.file c.args.top.now c.requires.value c.requires.small c.in_ok-shown.ensures.no_refusals c.in_ok-shown.shown.modules c.in_ok-shown.shown.top c.in_ok-shown.shown.is_declared c.in_ok-shown.ensures

pub design_of-requires-clause-fit : goal.design_of-requires-clause-fit
design_of-requires-clause-fit c = fit_shown c.args.file c.args.top.now c.requires.value c.requires.small c.in_ok-shown.ensures.no_refusals c.in_ok-shown.shown.modules c.in_ok-shown.shown.top c.in_ok-shown.shown.is_declared c.in_ok-shown.ensures

pub design_of-requires-clause-no_recursion : goal.design_of-requires-clause-no_recursion
design_of-requires-clause-no_recursion c = free_shown c.args.file c.args.top.now c.requires.value c.requires.small c.in_ok-shown.ensures.no_refusals c.in_ok-shown.shown.modules c.in_ok-shown.shown.top c.in_ok-shown.shown.is_declared c.in_ok-shown.ensures

pub design_of-requires-clause-few_units : goal.design_of-requires-clause-few_units
design_of-requires-clause-few_units c = units_shown c.args.file c.args.top.now c.requires.value c.requires.small c.in_ok-shown.ensures.no_refusals c.in_ok-shown.shown.modules c.in_ok-shown.shown.top c.in_ok-shown.shown.is_declared c.in_ok-shown.ensures

pub returns : goal.returns
returns c =
    answered_shown c.args.file c.args.top.now c.requires.value c.requires.small c.in_ok-shown.ensures.no_refusals c.in_ok-shown.shown.modules c.in_ok-shown.shown.top c.in_ok-shown.shown.is_declared c.in_ok-shown.ensures
    c.design_of.result c.design_of.ensures
