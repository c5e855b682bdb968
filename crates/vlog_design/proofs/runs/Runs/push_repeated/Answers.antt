use Rattle.std.proofs.Common.{◌≡◌, ◌++◌, OnOk, arith, subst, sym}
use Rattle.std.proofs.lemmas.Bool.{eqb-true}
use Rattle.vlog_design.proofs.RunLaws.{gap_repeated}
use Rattle.vlog_design.proofs.Steps.{done, moved, repeated_left, repeated_none}
use Rattle.vlog_design.proofs.runs.Runs.push_repeated.Goals as goal

pub returns-in-Some : goal.returns-in-Some
returns-in-Some c =
    let runs = c.once.inside.runs in
    record {
      added = subst (λ bits. OnOk c.push_nothing.result (c.push_nothing.new.self ≡ c.args.self.now ++ bits))
          (gap_repeated runs.items c.once.inside.gap c.args.count c.in-Some.gap (omega (arith, runs.ok.0, eqb-true _ _ (sym c.if-is_empty.ensures))) c.once.view_is c.in-Some.ensures.1)
          c.push_nothing.ensures.added;
    }

pub loop-i-preserved : goal.loop-i-preserved
loop-i-preserved c = rw c.in_ok-append.ensures.added (moved _ _ _ c.loop-i.invariant (repeated_left _ _ _ c.loop-i-test.true))

pub returns : goal.returns
returns c = record { added = done _ c.loop-i.invariant (repeated_none _ _ _ c.loop-i-test.false) }
