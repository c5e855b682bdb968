use Rattle.std.proofs.Common.{◌++◌, ◌-◌, ◌^◌, ap, arith, drop, sym, ◌∙◌}
use Rattle.vlog_design.specs.Design.{joins_between}
use Rattle.vlog_design.specs.Exprs.{bits, width}
use Rattle.vlog_design.proofs.BitCounts.{bits_width}
use Rattle.vlog_design.proofs.JoinLaws.{run_alone}
use Rattle.vlog_design.proofs.RowLaws.{passed_capped}
use Rattle.vlog_design.proofs.node_joins.push_made_joins.Goals as goal

pub returns-clause-added : goal.returns-clause-added
returns-clause-added c =
    let whole = bits c.args.table.now c.args.expr.now in
    c.in_ok-_rest.ensures.added
    ∙ (ap (λ bits. c.args.out.now.items ++ joins_between c.behind.result bits) (c.in_ok-push_bits.ensures.added ∙ ap (λ l. l ++ whole) c.empty-made.ensures)
    ∙ ap (λ side. c.args.out.now.items ++ joins_between side whole) (c.behind.ensures ∙ (run_alone c.left.inside.first c.left.inside.count ∙ c.left.view_is)))

pub returns-clause-left : goal.returns-clause-left
returns-clause-left c =
    let signals = c.args.table.now in
    c.behind-2.ensures
    ∙ (ap (λ n. drop n c.args.left) c.expr_width.ensures
    ∙ (ap (drop _) (sym c.left.view_is)
    ∙ (passed_capped c.left.inside.first c.left.inside.count (2 ^ 64 - 1) (width signals c.args.expr.now) (omega (arith, c.left.invariant))
    ∙ (ap (drop _) c.left.view_is
    ∙ ap (λ n. drop n c.args.left) (sym (bits_width signals c.args.expr.now))))))
