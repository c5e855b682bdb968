use Rattle.std.proofs.Common.{◌++◌, ap, ◌∙◌}
use Rattle.vlog_design.specs.Design.{joins_between}
use Rattle.vlog_design.specs.Runs.{runs_bits}
use Rattle.vlog_design.proofs.JoinLaws.{left_joined}
use Rattle.vlog_design.proofs.joins.push_joins.Goals as goal

pub returns : goal.returns
returns c = record {
  added = c.in_ok-_rest.ensures.added
      ∙ (ap (λ side. c.args.out.now.items ++ joins_between side c.args.right.now) c.behind-side.ensures
      ∙ ap (λ joins. c.args.out.now.items ++ joins)
      (left_joined c.deref.result.now c.left.inside.gap c.args.right.now (ap (λ l. runs_bits l c.left.inside.gap) c.deref.ensures.value ∙ c.left.view_is)));
}
