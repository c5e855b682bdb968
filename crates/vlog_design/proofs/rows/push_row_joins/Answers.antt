use Rattle.std.proofs.Common.{◌++◌, ap, ◌∙◌}
use Rattle.vlog_design.specs.Design.{joins_between}
use Rattle.vlog_design.specs.Runs.{nodes_from}
use Rattle.vlog_design.proofs.RowLaws.{rows_joined}
use Rattle.vlog_design.proofs.rows.push_row_joins.Goals as goal

pub returns-clause-added : goal.returns-clause-added
returns-clause-added c =
    c.in_ok-push_pairs.ensures.added
    ∙ (ap (λ l. c.args.out.now.items ++ l) (rows_joined c.row.inside.first c.args.first c.row.inside.count c.args.count c.min.result c.min.ensures)
    ∙ ap (λ row. c.args.out.now.items ++ joins_between row (nodes_from c.args.first c.args.count)) c.row.view_is)
