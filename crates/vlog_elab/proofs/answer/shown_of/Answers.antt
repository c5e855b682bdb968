use Rattle.std.proofs.Common.{◌≡◌, ◌-◌, ◌^◌, ◌∙◌, [], ap, map, min, subst, sum_by, sym, Some}
use Rattle.std.specs.Prelude.{MatchResult}
use Rattle.std.specs.List.{AllByRecursion}
use Rattle.vlog_checked.specs.Looks.{AreCleanModules, IsChecked}
use Rattle.vlog_design.specs.Names.{implicit_names}
use Rattle.vlog_design.specs.Rules.{first_G}
use Rattle.vlog_design.specs.Tables.{modules_of}
use Rattle.vlog_ties.specs.Ties.{module_bits, most_joins}
use Rattle.vlog_values.specs.declared.module.Module.{Module}
use Rattle.vlog_shown.specs.Interfaces.{interface}
use Rattle.vlog_elab.specs.Answers.{AreShown, IsFaultOf}
use Rattle.vlog_elab.proofs.Answering.{ready_for, shown_for}
use Rattle.vlog_elab.proofs.answer.shown_of.Goals as goal

pub returns-in-Refused : goal.returns-in-Refused
returns-in-Refused c = subst (λ top. first_G c.args.file.now top ≡ Some c.in-Refused.refusal) c.bytes.ensures (subst (IsChecked c.args.file.now c.bytes.result.now) c.in-Refused.is c.in_ok-refusal.ensures)

pub shown_from-requires-clause-ready : goal.shown_from-requires-clause-ready
shown_from-requires-clause-ready c =
    let looked : AreCleanModules c.args.file.now c.bytes.result.now c.in-Clean.clean = subst (IsChecked c.args.file.now c.bytes.result.now) c.in-Clean.is c.in_ok-refusal.ensures in
    ready_for c.args.file.now c.bytes.result.now c.requires.value c.requires.small looked.no_refusals (modules_of c.in-Clean.clean.modules.items) looked.modules_are c.in-Clean.clean.names looked.names_are

pub shown_from-requires-clause-bits : goal.shown_from-requires-clause-bits
shown_from-requires-clause-bits c =
    let looked : AreCleanModules c.args.file.now c.bytes.result.now c.in-Clean.clean = subst (IsChecked c.args.file.now c.bytes.result.now) c.in-Clean.is c.in_ok-refusal.ensures in
    looked.bits_is ∙ ap (λ modules. min (2 ^ 64 - 1) (sum_by module_bits modules)) (sym looked.modules_are)

pub shown_from-requires-clause-most : goal.shown_from-requires-clause-most
shown_from-requires-clause-most c =
    let looked : AreCleanModules c.args.file.now c.bytes.result.now c.in-Clean.clean = subst (IsChecked c.args.file.now c.bytes.result.now) c.in-Clean.is c.in_ok-refusal.ensures in
    looked.most_is ∙ ap (λ modules. min (2 ^ 64 - 1) (sum_by (most_joins modules) modules)) (sym looked.modules_are)

pub shown_from-requires-clause-shown : goal.shown_from-requires-clause-shown
shown_from-requires-clause-shown c =
    let looked : AreCleanModules c.args.file.now c.bytes.result.now c.in-Clean.clean = subst (IsChecked c.args.file.now c.bytes.result.now) c.in-Clean.is c.in_ok-refusal.ensures in
    looked.shown_are ∙ ap (map interface) (sym looked.modules_are)

pub shown_from-requires-clause-declared : goal.shown_from-requires-clause-declared
shown_from-requires-clause-declared c =
    let looked : AreCleanModules c.args.file.now c.bytes.result.now c.in-Clean.clean = subst (IsChecked c.args.file.now c.bytes.result.now) c.in-Clean.is c.in_ok-refusal.ensures in
    λ e. subst (AllByRecursion (λ (m : Module). implicit_names m ≡ [])) (sym looked.modules_are) (looked.declared e)

pub returns-in-Clean : goal.returns-in-Clean
returns-in-Clean c =
    let looked : AreCleanModules c.args.file.now c.bytes.result.now c.in-Clean.clean = subst (IsChecked c.args.file.now c.bytes.result.now) c.in-Clean.is c.in_ok-refusal.ensures in
    subst (λ top. MatchResult c.shown_from.result (λ shown. AreShown c.args.file.now top shown.modules shown.top shown.is_declared) (IsFaultOf c.args.file.now top)) c.bytes.ensures
    (shown_for c.args.file.now c.bytes.result.now c.requires.value c.requires.small looked.no_refusals (modules_of c.in-Clean.clean.modules.items) looked.modules_are c.in-Clean.clean.top looked.top_is
    c.shown_from.result c.shown_from.ensures)
