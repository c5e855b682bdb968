use Rattle.std.proofs.Common.{◌-◌, ap, arith, drop, ◌∙◌}
use Rattle.vlog_design.specs.Runs.{nodes_from}
use Rattle.vlog_design.proofs.RowLaws.{no_nodes_behind, nodes_behind}
use Rattle.vlog_design.proofs.rows.Row.behind.Goals as goal

pub returns-then-places-from : goal.returns-then-places-from
returns-then-places-from c = no_nodes_behind c.self.inside.first c.self.inside.count c.args.places (omega (arith, c.from.ensures)) ∙ ap (drop c.args.places) c.self.view_is

pub returns : goal.returns
returns c =
    ap (λ node. nodes_from node (c.self.inside.count - c.args.places)) c.node_after.ensures
    ∙ (nodes_behind c.self.inside.first c.self.inside.count c.args.places (omega (arith, c.from.ensures)) ∙ ap (drop c.args.places) c.self.view_is)
