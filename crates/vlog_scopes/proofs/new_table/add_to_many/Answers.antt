use Rattle.std.proofs.Common.{◌∙◌, ap, not, sym}
use Rattle.vlog_design.specs.Names.{has_name}
use Rattle.vlog_scopes.specs.Distinct.{signal_names}
use Rattle.vlog_scopes.specs.Filled.{filled}
use Rattle.vlog_scopes.proofs.FilledLaws.{new_there}
use Rattle.vlog_scopes.proofs.SignalLaws.{named_none}
use Rattle.vlog_scopes.proofs.new_table.add_to_many.Goals as goal

pub returns-in-Some-clause-new : goal.returns-in-Some-clause-new
returns-in-Some-clause-new c = new_there c.add.result (filled c.args.few.now c.args.many.now) c.in-Some.table c.args.name.now (ap (filled c.args.few.now) c.in-Some.is) c.add.ensures.answer

pub returns-in_ok-new-in-None-clause-new : goal.returns-in_ok-new-in-None-clause-new
returns-in_ok-new-in-None-clause-new c =
    c.in_ok-new-in-None.ensures.answer
    ∙ (named_none c.in_ok-table-in-None.table c.args.name.now
    ∙ ap (λ those. not (has_name (signal_names those) c.args.name.now)) (c.in_ok-table-in-None.ensures ∙ sym (ap (filled c.args.few.now) c.in-None.is)))
