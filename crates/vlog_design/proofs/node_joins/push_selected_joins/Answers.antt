use Rattle.std.proofs.Common.{◌≡◌, ◌++◌, [], IfOk, OnOk, ap, drop, length, subst, sym, ◌∙◌}
use Rattle.std.specs.Option.{option_map_or}
use Rattle.vlog_design.specs.Design.{joins_between}
use Rattle.vlog_design.specs.Exprs.{span_bits}
use Rattle.vlog_design.proofs.JoinLaws.{nothing_met}
use Rattle.vlog_design.proofs.RowLaws.{span_row}
use Rattle.vlog_design.proofs.RunLaws.{length-nodes}
use Rattle.vlog_design.proofs.node_joins.push_selected_joins.Goals as goal

pub returns-in-None-clause-added : goal.returns-in-None-clause-added
returns-in-None-clause-added c = nothing_met c.args.out.now.items c.args.left _ (ap (λ s. option_map_or (span_bits c.args.slot.place) s []) (sym c.in-None.ensures.value))

pub returns-in-Some-clause-added : goal.returns-in-Some-clause-added
returns-in-Some-clause-added c =
    subst (λ all. OnOk c.push_row_joins.result (c.push_row_joins.new.out.items ≡ c.args.out.now.items ++ joins_between c.args.left all))
    (span_row c.args.slot.place c.in-Some.span.first c.in-Some.span.count c.node.result c.node.ensures ∙ ap (λ s. option_map_or (span_bits c.args.slot.place) s []) c.in-Some.ensures.value)
    c.push_row_joins.ensures.added

pub returns-in-Some-clause-left : goal.returns-in-Some-clause-left
returns-in-Some-clause-left c =
    subst (λ n. IfOk c.push_row_joins.result (λ rest. rest ≡ drop n c.args.left))
    (sym (length-nodes c.node.result c.in-Some.span.count)
    ∙ ap length (span_row c.args.slot.place c.in-Some.span.first c.in-Some.span.count c.node.result c.node.ensures ∙ ap (λ s. option_map_or (span_bits c.args.slot.place) s []) c.in-Some.ensures.value))
    c.push_row_joins.ensures.left
