use Rattle.std.proofs.Common.{◌≡◌, ◌∙◌, ap, subst}
use Rattle.std.specs.Prelude.{IfOk}
use Rattle.vlog_design.specs.Rules.{first_of}
use Rattle.vlog_design.specs.Tables.{modules_of}
use Rattle.vlog_checked.specs.Groups.{connection_refusals, design_refusals, name_refusals, table_refusals, width_refusals}
use Rattle.vlog_checked.proofs.Firsts.{four_first, four_last, four_second, four_third}
use Rattle.vlog_checked.proofs.tables.first_in_tables.Goals as goal

pub returns-in-Some : goal.returns-in-Some
unfolding table_refusals
returns-in-Some c = four_first (name_refusals (modules_of c.args.library.now.modules.items)) (connection_refusals (modules_of c.args.library.now.modules.items)) c.in_ok-refusal.field-0 (c.in_ok-refusal.ensures ∙ ap (λ those. first_of (name_refusals those)) c.requires.same) (width_refusals (modules_of c.args.library.now.modules.items)) (design_refusals (modules_of c.args.library.now.modules.items)) c.in-Some.refusal c.in-Some.is

pub returns-in-Some-2 : goal.returns-in-Some-2
unfolding table_refusals
returns-in-Some-2 c =
    four_second (name_refusals (modules_of c.args.library.now.modules.items)) (connection_refusals (modules_of c.args.library.now.modules.items)) c.in_ok-refusal.field-0 (c.in_ok-refusal.ensures ∙ ap (λ those. first_of (name_refusals those)) c.requires.same) (width_refusals (modules_of c.args.library.now.modules.items)) c.in_default.is
    c.in_ok-refusal-2.field-0 c.in_ok-refusal-2.ensures (design_refusals (modules_of c.args.library.now.modules.items)) c.in-Some-2.refusal c.in-Some-2.is

pub returns-in-Some-3 : goal.returns-in-Some-3
unfolding table_refusals
returns-in-Some-3 c =
    four_third (name_refusals (modules_of c.args.library.now.modules.items)) (connection_refusals (modules_of c.args.library.now.modules.items)) c.in_ok-refusal.field-0 (c.in_ok-refusal.ensures ∙ ap (λ those. first_of (name_refusals those)) c.requires.same) (width_refusals (modules_of c.args.library.now.modules.items)) c.in_default.is
    c.in_ok-refusal-2.field-0 c.in_ok-refusal-2.ensures (design_refusals (modules_of c.args.library.now.modules.items)) c.in_default-2.is c.in_ok-refusal-3.field-0 (c.in_ok-refusal-3.ensures ∙ ap (λ those. first_of (width_refusals those)) c.requires.same) c.in-Some-3.refusal c.in-Some-3.is

pub returns : goal.returns
unfolding table_refusals
returns c =
    four_last (name_refusals (modules_of c.args.library.now.modules.items)) (connection_refusals (modules_of c.args.library.now.modules.items)) c.in_ok-refusal.field-0 (c.in_ok-refusal.ensures ∙ ap (λ those. first_of (name_refusals those)) c.requires.same) (width_refusals (modules_of c.args.library.now.modules.items)) c.in_default.is
    c.in_ok-refusal-2.field-0 c.in_ok-refusal-2.ensures (design_refusals (modules_of c.args.library.now.modules.items)) c.in_default-2.is c.in_ok-refusal-3.field-0 (c.in_ok-refusal-3.ensures ∙ ap (λ those. first_of (width_refusals those)) c.requires.same) c.in_default-3.is c.first_in_instances.result
    (subst (λ items. IfOk c.first_in_instances.result (λ found. found ≡ first_of (design_refusals (modules_of items)))) c.deref-2.ensures.value c.first_in_instances.ensures)
