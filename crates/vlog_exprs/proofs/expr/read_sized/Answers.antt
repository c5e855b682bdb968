use Rattle.vlog_values.proofs.Sizes.{size-Lit, size-LooseNumber}
use Rattle.vlog_exprs.proofs.Known.{literal_within, number_within}
use Rattle.vlog_exprs.proofs.expr.read_sized.Goals as goal

pub returns-in_ok-literal-in-Some-clause-value : goal.returns-in_ok-literal-in-Some-clause-value
returns-in_ok-literal-in-Some-clause-value g c = λ levels. rw c.in_ok-literal-in-Some.ensures.boxed (literal_within levels _ (rw c.in-Some.is at c.in_ok-literal.ensures.value))

pub returns-in_ok-literal-in-Some-clause-size : goal.returns-in_ok-literal-in-Some-clause-size
returns-in_ok-literal-in-Some-clause-size g c = size-Lit _

pub returns-in-None-clause-value : goal.returns-in-None-clause-value
returns-in-None-clause-value g c = λ levels. number_within levels _ c.requires

pub returns-in-None-clause-size : goal.returns-in-None-clause-size
returns-in-None-clause-size g c = size-LooseNumber _
