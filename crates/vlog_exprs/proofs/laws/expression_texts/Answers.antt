use Rattle.vlog_exprs.proofs.Expressions.{expressions}
use Rattle.vlog_exprs.proofs.laws.expression_texts.Goals as goal

pub returns : goal.returns
returns c = expressions
