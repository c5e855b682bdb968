use Rattle.std.proofs.Common.{◌≡◌, ◌-◌, ◌^◌, ◌∙◌, ap, min, subst, sum_by, sym, Some}
use Rattle.std.specs.Prelude.{MatchResult}
use Rattle.vlog_checked.specs.Looks.{AreCleanModules, IsChecked}
use Rattle.vlog_design.specs.Rules.{first_G}
use Rattle.vlog_design.specs.Tables.{modules_of}
use Rattle.vlog_ties.specs.Ties.{module_bits, most_joins}
use Rattle.vlog_elab.specs.Answers.{HasDesign, IsFaultOf}
use Rattle.vlog_elab.proofs.Answering.{checked_for, ready_for}
use Rattle.vlog_elab.proofs.answer.check.Goals as goal

pub returns-in-Refused : goal.returns-in-Refused
returns-in-Refused c = subst (λ top. first_G c.args.file.now top ≡ Some c.in-Refused.refusal) c.bytes.ensures (subst (IsChecked c.args.file.now c.bytes.result.now) c.in-Refused.is c.in_ok-refusal.ensures)

pub few_units-requires-clause-ready : goal.few_units-requires-clause-ready
few_units-requires-clause-ready c =
    let looked : AreCleanModules c.args.file.now c.bytes.result.now c.in-Clean.clean = subst (IsChecked c.args.file.now c.bytes.result.now) c.in-Clean.is c.in_ok-refusal.ensures in
    ready_for c.args.file.now c.bytes.result.now c.requires.value c.requires.small looked.no_refusals (modules_of c.deref.result.now) (ap modules_of c.deref.ensures.value ∙ looked.modules_are) c.in-Clean.clean.names looked.names_are

pub few_units-requires-clause-bits : goal.few_units-requires-clause-bits
few_units-requires-clause-bits c =
    let looked : AreCleanModules c.args.file.now c.bytes.result.now c.in-Clean.clean = subst (IsChecked c.args.file.now c.bytes.result.now) c.in-Clean.is c.in_ok-refusal.ensures in
    looked.bits_is ∙ ap (λ modules. min (2 ^ 64 - 1) (sum_by module_bits modules)) (sym (ap modules_of c.deref.ensures.value ∙ looked.modules_are))

pub few_units-requires-clause-most : goal.few_units-requires-clause-most
few_units-requires-clause-most c =
    let looked : AreCleanModules c.args.file.now c.bytes.result.now c.in-Clean.clean = subst (IsChecked c.args.file.now c.bytes.result.now) c.in-Clean.is c.in_ok-refusal.ensures in
    looked.most_is ∙ ap (λ modules. min (2 ^ 64 - 1) (sum_by (most_joins modules) modules)) (sym (ap modules_of c.deref.ensures.value ∙ looked.modules_are))

pub returns-in-Clean : goal.returns-in-Clean
returns-in-Clean c =
    let looked : AreCleanModules c.args.file.now c.bytes.result.now c.in-Clean.clean = subst (IsChecked c.args.file.now c.bytes.result.now) c.in-Clean.is c.in_ok-refusal.ensures in
    subst (λ top. MatchResult c.few_units.result (λ done. HasDesign c.args.file.now top) (IsFaultOf c.args.file.now top)) c.bytes.ensures
    (checked_for c.args.file.now c.bytes.result.now c.requires.value c.requires.small looked.no_refusals (modules_of c.deref.result.now) (ap modules_of c.deref.ensures.value ∙ looked.modules_are)
    c.few_units.result c.few_units.ensures)
