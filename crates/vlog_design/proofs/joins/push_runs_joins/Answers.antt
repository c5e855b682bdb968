use Rattle.std.proofs.Common.{◌≡◌, ap, drop, get_or, length, sym, ◌∙◌}
use Rattle.vlog_design.specs.Runs.{run_bits}
use Rattle.vlog_design.proofs.JoinLaws.{part_joined, part_passed, parts_joined, parts_passed}
use Rattle.vlog_design.proofs.RunLaws.{length-run}
use Rattle.vlog_design.proofs.joins.push_runs_joins.Goals as goal

pub loop-run-preserved : goal.loop-run-preserved
loop-run-preserved c =
    let runs = c.args.right.now in
    let i = c.loop-run.run-index in
    let passed : c.in_ok-rest.rest ≡ drop (length (run_bits (get_or runs i _))) c.loop-run.rest = c.in_ok-rest.ensures.left ∙ ap (λ n. drop n c.loop-run.rest) (sym (length-run (get_or runs i _))) in
    record {
      joined = part_joined run_bits c.loop-run.rest c.in_ok-rest.rest runs i _ c.loop-run-test.true passed c.loop-run.out.items c.push_run_joins.new.out.items c.loop-run.invariant.joined c.in_ok-rest.ensures.added;
      left = part_passed run_bits c.loop-run.rest c.in_ok-rest.rest runs i _ c.loop-run-test.true passed c.loop-run.invariant.left;
    }

pub returns : goal.returns
returns c = record {
  added = parts_joined run_bits c.loop-run.rest c.args.right.now c.loop-run.run-index c.loop-run-test.false c.loop-run.out.items c.loop-run.invariant.joined;
  left = parts_passed run_bits c.loop-run.rest c.args.right.now c.loop-run.run-index c.loop-run-test.false c.loop-run.invariant.left;
}
