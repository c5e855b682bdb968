use Rattle.std.proofs.Common.{◌∙◌}
use Rattle.vlog_rules.proofs.StatementLaws.{in_statements}
use Rattle.vlog_rules.proofs.statements.first_in_statements.Goals as goal

pub returns : goal.returns
returns g c = c.in_ok-found.ensures ∙ in_statements (g.R.StatementRule.number c.args.rule.now) (g.R.StatementRule.objects c.args.rule.now) c.args.m.now _ _ c.bytes.ensures c.items.ensures
