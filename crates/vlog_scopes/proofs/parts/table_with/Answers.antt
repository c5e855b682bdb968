use Rattle.std.proofs.Common.{◌++◌, None, ap, subst, sym, ◌∙◌}
use Rattle.vlog_design.specs.Tables.{names_of}
use Rattle.vlog_scopes.specs.Distinct.{Distinct, signal_names}
use Rattle.vlog_scopes.specs.Ranged.{net_slots, of_range}
use Rattle.vlog_scopes.proofs.parts.table_with.Goals as goal

pub add_single-requires-clause-differ : goal.add_single-requires-clause-differ
add_single-requires-clause-differ c =
    subst Distinct
    (sym (λ j. signal_names (c.in_ok-next.ensures.added j) ++ (ap names_of c.deref.ensures.value ∙ (c.in_ok-push_texts.ensures.added ∙ ap (λ l. names_of l ++ c.args.undeclared.now) c.in_ok-behind.ensures.items)) j)) c.requires.apart

pub returns : goal.returns
returns c =
    let declared = c.args.declared.now in
    let names = ap names_of c.deref.ensures.value ∙ (c.in_ok-push_texts.ensures.added ∙ ap (λ l. names_of l ++ c.args.undeclared.now) c.in_ok-behind.ensures.items) in
    c.in_ok-table.ensures ∙ (c.in_ok-add_single.ensures.added ∙ (λ j. c.in_ok-next.ensures.added j ++ net_slots (c.in_ok-next.ensures.behind j) (of_range None (names j))))
