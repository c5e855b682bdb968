use Rattle.std.proofs.Common.{◌≡◌, ◌++◌, ◌∙◌, ap, map, subst, sym}
use Rattle.std.specs.Prelude.{IfOk}
use Rattle.nl_base.specs.declared.rule.Rule.TheVariants.{G6, G7}
use Rattle.vlog_design.specs.Rules.{bad_selects, first_of, in_modules, refused, unknown_names}
use Rattle.vlog_rules.proofs.UseLaws.{none_refused}
use Rattle.vlog_ties.specs.Ties.{modules_in}
use Rattle.vlog_checked.proofs.Firsts.{in_scopes, two_first, two_last}
use Rattle.vlog_checked.proofs.tables.first_in_uses.Goals as goal

pub returns-then-not-wrong : goal.returns-then-not-wrong
returns-then-not-wrong c =
    let none = none_refused (modules_in c.args.scopes.now) (sym c.requires ∙ c.if-not-wrong.true) in
    sym (λ j. first_of (none.0 j ++ none.1 j))

pub returns-in-Some : goal.returns-in-Some
returns-in-Some c =
    let modules = modules_in c.args.scopes.now in
    two_first (in_modules G6 unknown_names modules) (in_modules G7 bad_selects modules) c.in_ok-refusal.field-0
    (c.in_ok-refusal.ensures ∙ ap first_of (in_scopes (λ m. map (refused G6 m.name) (unknown_names m)) c.args.scopes.now)) c.in-Some.refusal c.in-Some.is

pub returns : goal.returns
returns c =
    let modules = modules_in c.args.scopes.now in
    two_last (in_modules G6 unknown_names modules) (in_modules G7 bad_selects modules) c.in_ok-refusal.field-0
    (c.in_ok-refusal.ensures ∙ ap first_of (in_scopes (λ m. map (refused G6 m.name) (unknown_names m)) c.args.scopes.now)) c.in_default.is c.first_in_scopes-2.result
    (subst (λ those. IfOk c.first_in_scopes-2.result (λ found. found ≡ first_of those)) (in_scopes (λ m. map (refused G7 m.name) (bad_selects m)) c.args.scopes.now) c.first_in_scopes-2.ensures)
