use Rattle.std.proofs.Common.{◌≡◌, ◌+◌, ◌++◌, ap, arith, drop, ◌∙◌}
use Rattle.std.proofs.lemmas.List.{drop-drop}
use Rattle.vlog_design.proofs.JoinLaws.{node_joined, run_begun, run_ended}
use Rattle.vlog_design.proofs.joins.push_run_joins.Goals as goal

pub loop-i-preserved : goal.loop-i-preserved
loop-i-preserved c = record {
  joined = node_joined c.loop-i.out.items c.push_join.new.out.items c.loop-i.rest c.skip-rest-in-loop-i.result c.first.result c.node_after.result c.args.run.first c.args.run.count c.loop-i.i
      c.loop-i-test.true c.loop-i.invariant.joined c.first.ensures c.node_after.ensures c.in_ok-push_join.ensures.added c.skip-rest-in-loop-i.ensures;
  left = c.skip-rest-in-loop-i.ensures ∙ (ap (drop 1) c.loop-i.invariant.left ∙ drop-drop 1 c.loop-i.i c.skip-rest.result);
}

pub returns-clause-added : goal.returns-clause-added
returns-clause-added c =
    run_ended c.loop-i.out.items c.loop-i.rest c.args.run.first c.args.run.count c.loop-i.i c.loop-i-test.false c.loop-i.invariant.joined
    ∙ ap (λ l. c.args.out.now.items ++ l) (run_begun c.args.left c.skip-rest.result c.args.run c.skip-rest.ensures)

pub returns-clause-left : goal.returns-clause-left
returns-clause-left c =
    let all : c.loop-i.i ≡ c.args.run.count = omega arith in
    c.loop-i.invariant.left
    ∙ (ap (drop c.loop-i.i) c.skip-rest.ensures
    ∙ (drop-drop c.loop-i.i c.args.run.gap c.args.left ∙ ap (λ n. drop (c.args.run.gap + n) c.args.left) all))
