use Rattle.std.proofs.Common.{◌∙◌, Some, ap, arith, cond, drop, sym, ◌+◌}
use Rattle.vlog_design.specs.Names.{signal_named}
use Rattle.vlog_design.specs.Tables.{signals_of}
use Rattle.vlog_design.proofs.Tables.{named_last, named_next}
use Rattle.vlog_design.proofs.table.find_among.Goals as goal

pub returns-then-eq : goal.returns-then-eq
returns-then-eq c =
    sym (named_next c.args.entries.now c.loop-entry.entry-index c.entry-item.result c.args.name.now c.eq.result c.loop-entry-test.true c.entry-item.is c.eq.ensures
    ∙ ap (λ b. cond b (Some c.entry-item.result.1) (signal_named (signals_of (drop (c.loop-entry.entry-index + 1) c.args.entries.now)) c.args.name.now)) c.if-eq.true)
    ∙ c.loop-entry.invariant

pub loop-entry-preserved : goal.loop-entry-preserved
loop-entry-preserved c =
    sym (named_next c.args.entries.now c.loop-entry.entry-index c.entry-item.result c.args.name.now c.eq.result c.loop-entry-test.true c.entry-item.is c.eq.ensures
    ∙ ap (λ b. cond b (Some c.entry-item.result.1) (signal_named (signals_of (drop (c.loop-entry.entry-index + 1) c.args.entries.now)) c.args.name.now)) c.if-eq.false)
    ∙ c.loop-entry.invariant

pub returns : goal.returns
returns c =
    sym (named_last c.args.entries.now c.loop-entry.entry-index c.args.name.now (omega (arith, c.loop-entry-test.false))) ∙ c.loop-entry.invariant
