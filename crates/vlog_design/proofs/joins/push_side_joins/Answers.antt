use Rattle.std.proofs.Common.{◌++◌, ap, ◌∙◌}
use Rattle.vlog_design.specs.Runs.{runs_bits}
use Rattle.vlog_design.proofs.JoinLaws.{right_joined}
use Rattle.vlog_design.proofs.joins.push_side_joins.Goals as goal

pub returns-clause-added : goal.returns-clause-added
returns-clause-added c =
    c.in_ok-rest.ensures.added
    ∙ ap (λ joins. c.args.out.now.items ++ joins)
    (right_joined c.args.left c.deref.result.now c.right.inside.gap (ap (λ l. runs_bits l c.right.inside.gap) c.deref.ensures.value ∙ c.right.view_is))
