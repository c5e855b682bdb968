use Rattle.std.proofs.Common.{◌≤◌, ◌∙◌, ap, subst, sym}
use Rattle.std.specs.List.{AllByRecursion}
use Rattle.vlog_design.specs.Tables.{modules_of}
use Rattle.vlog_scopes.specs.Distinct.{AreDeclaredOnce, Distinct, module_names}
use Rattle.vlog_shown.proofs.Lists.{names_same, once_shown, small_shown}
use Rattle.vlog_ties.specs.Ties.{modules_in}
use Rattle.vlog_values.specs.Sizes.{module_size}
use Rattle.vlog_checked.proofs.LookLaws.{looks_shown}
use Rattle.vlog_checked.proofs.check.look_by.Goals as goal

pub names_shown-requires : goal.names_shown-requires
names_shown-requires c = subst Distinct (sym (ap module_names c.requires.shown ∙ names_same (modules_of c.args.modules.now))) c.requires.kept.differ

pub scopes_shown-requires-clause-once : goal.scopes_shown-requires-clause-once
scopes_shown-requires-clause-once c = subst AreDeclaredOnce (sym c.requires.shown) (once_shown (modules_of c.args.modules.now) c.requires.kept.once)

pub scopes_shown-requires-clause-small : goal.scopes_shown-requires-clause-small
scopes_shown-requires-clause-small c = subst (AllByRecursion (λ m. module_size m ≤ 268435456)) (sym c.requires.shown) (small_shown (modules_of c.args.modules.now) c.requires.kept.small)

pub returns : goal.returns
returns c =
    looks_shown (modules_of c.args.modules.now) (modules_in c.deref.result.now) (ap modules_in c.deref.ensures.value ∙ (c.in_ok-scopes.ensures ∙ c.requires.shown)) c.looks_at.result c.looks_at.ensures
