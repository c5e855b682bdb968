use Rattle.std.proofs.Common.{◌∙◌, ap, not}
use Rattle.vlog_design.specs.Tables.{signal_of}
use Rattle.vlog_scopes.proofs.DistinctLaws.{push_more}
use Rattle.vlog_scopes.proofs.SignalLaws.{named_none}
use Rattle.vlog_scopes.proofs.new_table.index_of.Goals as goal

pub loop-entry-preserved : goal.loop-entry-preserved
loop-entry-preserved c =
    push_more signal_of (λ signal. signal.name) c.args.entries.now c.loop-entry.table _ c.loop-entry.entry-index c.entry-item.result c.in_ok-add.field-0 c.loop-entry-test.true c.entry-item.is c.requires c.loop-entry.invariant
    (λ e. c.in_ok-add.ensures.answer ∙ (named_none c.loop-entry.table c.entry-item.result.0.now ∙ ap not e)) c.in_ok-add.ensures.added
