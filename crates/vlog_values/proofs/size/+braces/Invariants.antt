use Rattle.std.proofs.Common.{◌≡◌, ◌-◌, ◌^◌, min, sum_by, take}
use Rattle.vlog_values.specs.Sizes.{expr_size}
use Rattle.vlog_values.proofs.size.+braces.Given as goal

abbrev pub invariant-count_exprs-loop-expr : goal.invariant-count_exprs-loop-expr
invariant-count_exprs-loop-expr l = l.count ≡ min (2 ^ 64 - 1) (sum_by expr_size (take l.expr-index l.exprs))
