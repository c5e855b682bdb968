use Rattle.std.proofs.Common.{◌≡◌, ◌<◌, ◌≤◌, ◌^◌, [], length, ap, subst, sym, ◌∙◌}
use Rattle.vlog_design.specs.Reach.{reached}
use Rattle.vlog_design.specs.Rules.{first_of}
use Rattle.vlog_design.specs.Tables.{modules_of}
use Rattle.vlog_checked.specs.Groups.{module_refusals}
use Rattle.vlog_checked.proofs.Grouping.{none_first, refused_in_modules}
use Rattle.vlog_checked.proofs.TableLaws as laws
use Rattle.vlog_checked.proofs.check.check_modules.Goals as goal

pub file_names-requires : goal.file_names-requires
file_names-requires c = laws.once c.args.file.now c.args.top.now c.requires.named

pub number_in-number-requires : goal.number_in-number-requires
number_in-number-requires c = laws.names_few c.args.file.now c.args.top.now c.requires.named c.requires.small c.in_ok-names.names c.in_ok-names.ensures

pub reached_modules-requires-clause-few : goal.reached_modules-requires-clause-few
reached_modules-requires-clause-few c = subst (λ modules. length modules ≤ 2 ^ 32) (sym c.items.ensures) (laws.modules_few c.args.file.now c.args.top.now c.requires.named c.requires.small)

pub reached_modules-requires-clause-within : goal.reached_modules-requires-clause-within
reached_modules-requires-clause-within c =
    subst (λ modules. c.number_in-number.result < length modules) (sym c.items.ensures) (laws.start_within c.args.file.now c.args.top.now c.requires.named c.in_ok-names.names c.number_in-number.result c.in_ok-names.ensures c.number_in-number.ensures)

pub returns-in-Some : goal.returns-in-Some
returns-in-Some c =
    let start = laws.start_is c.args.file.now c.args.top.now c.requires.named c.in_ok-names.names c.number_in-number.result c.in_ok-names.ensures c.number_in-number.ensures in
    let are = c.in_ok-modules.ensures ∙ laws.reached_is c.args.file.now c.args.top.now c.requires.named c.items.result.now c.items.ensures c.number_in-number.result start in
    let lent = ap modules_of c.deref.ensures.value ∙ are in
    refused_in_modules c.args.file.now c.args.top.now c.requires.named c.in-Some.refusal
    (sym c.in-Some.is ∙ (c.in_ok-refusal.ensures ∙ (λ j. first_of (module_refusals (c.items-2.ensures j) (lent j)))))

none_declared : (c : goal.In_default) → module_refusals c.args.file.now.modules (reached c.args.file.now c.args.top.now) ≡ []
none_declared c =
    let start = laws.start_is c.args.file.now c.args.top.now c.requires.named c.in_ok-names.names c.number_in-number.result c.in_ok-names.ensures c.number_in-number.ensures in
    let are = c.in_ok-modules.ensures ∙ laws.reached_is c.args.file.now c.args.top.now c.requires.named c.items.result.now c.items.ensures c.number_in-number.result start in
    let lent = ap modules_of c.deref.ensures.value ∙ are in
    none_first (module_refusals c.args.file.now.modules (reached c.args.file.now c.args.top.now))
    (sym c.in_default.is ∙ (c.in_ok-refusal.ensures ∙ (λ j. first_of (module_refusals (c.items-2.ensures j) (lent j)))))

pub examined_reached-requires-clause-declared : goal.examined_reached-requires-clause-declared
examined_reached-requires-clause-declared c = none_declared c

pub examined_reached-requires-clause-kept : goal.examined_reached-requires-clause-kept
examined_reached-requires-clause-kept c = laws.can_have_tables c.args.file.now c.args.top.now c.requires.named c.requires.value c.requires.small (none_declared c)

pub examined_reached-requires-clause-reached : goal.examined_reached-requires-clause-reached
examined_reached-requires-clause-reached c =
    c.in_ok-modules.ensures
    ∙ laws.reached_is c.args.file.now c.args.top.now c.requires.named c.items.result.now c.items.ensures c.number_in-number.result
    (laws.start_is c.args.file.now c.args.top.now c.requires.named c.in_ok-names.names c.number_in-number.result c.in_ok-names.ensures c.number_in-number.ensures)
