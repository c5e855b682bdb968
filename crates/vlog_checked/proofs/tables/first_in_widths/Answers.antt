use Rattle.std.proofs.Common.{◌≡◌, ◌∙◌, ap, map, subst}
use Rattle.std.specs.Prelude.{IfOk}
use Rattle.nl_base.specs.declared.rule.Rule.TheVariants.{G12, G13, G14, G15}
use Rattle.vlog_design.specs.Rules.{first_of, in_modules, other_ranges, params_twice, refused, too_wide, unsized}
use Rattle.vlog_ties.specs.Ties.{modules_in}
use Rattle.vlog_checked.specs.Groups.{width_refusals}
use Rattle.vlog_checked.proofs.Firsts.{four_first, four_last, four_second, four_third, in_scopes}
use Rattle.vlog_checked.proofs.tables.first_in_widths.Goals as goal

pub returns-in-Some : goal.returns-in-Some
unfolding width_refusals
returns-in-Some c = four_first (in_modules G12 too_wide (modules_in c.args.scopes.now)) (in_modules G13 (unsized (modules_in c.args.scopes.now)) (modules_in c.args.scopes.now)) c.in_ok-refusal.field-0 (c.in_ok-refusal.ensures ∙ ap first_of (in_scopes (λ m. map (refused G12 m.name) (too_wide m)) c.args.scopes.now)) (in_modules G14 params_twice (modules_in c.args.scopes.now)) (in_modules G15 other_ranges (modules_in c.args.scopes.now)) c.in-Some.refusal c.in-Some.is

pub returns-in-Some-loose : goal.returns-in-Some-loose
unfolding width_refusals
returns-in-Some-loose c =
    four_second (in_modules G12 too_wide (modules_in c.args.scopes.now)) (in_modules G13 (unsized (modules_in c.args.scopes.now)) (modules_in c.args.scopes.now)) c.in_ok-refusal.field-0 (c.in_ok-refusal.ensures ∙ ap first_of (in_scopes (λ m. map (refused G12 m.name) (too_wide m)) c.args.scopes.now)) (in_modules G14 params_twice (modules_in c.args.scopes.now)) c.in_default.is
    c.args.loose c.requires.loose (in_modules G15 other_ranges (modules_in c.args.scopes.now)) c.in-Some-loose.refusal c.in-Some-loose.is

pub returns-in-Some-2 : goal.returns-in-Some-2
unfolding width_refusals params_twice
returns-in-Some-2 c =
    four_third (in_modules G12 too_wide (modules_in c.args.scopes.now)) (in_modules G13 (unsized (modules_in c.args.scopes.now)) (modules_in c.args.scopes.now)) c.in_ok-refusal.field-0 (c.in_ok-refusal.ensures ∙ ap first_of (in_scopes (λ m. map (refused G12 m.name) (too_wide m)) c.args.scopes.now)) (in_modules G14 params_twice (modules_in c.args.scopes.now)) c.in_default.is
    c.args.loose c.requires.loose (in_modules G15 other_ranges (modules_in c.args.scopes.now)) c.in_default-loose.is c.in_ok-refusal-2.field-0 (c.in_ok-refusal-2.ensures ∙ ap (λ modules. first_of (in_modules G14 params_twice modules)) c.requires.same) c.in-Some-2.refusal c.in-Some-2.is

pub returns : goal.returns
unfolding width_refusals params_twice
returns c =
    four_last (in_modules G12 too_wide (modules_in c.args.scopes.now)) (in_modules G13 (unsized (modules_in c.args.scopes.now)) (modules_in c.args.scopes.now)) c.in_ok-refusal.field-0 (c.in_ok-refusal.ensures ∙ ap first_of (in_scopes (λ m. map (refused G12 m.name) (too_wide m)) c.args.scopes.now)) (in_modules G14 params_twice (modules_in c.args.scopes.now)) c.in_default.is
    c.args.loose c.requires.loose (in_modules G15 other_ranges (modules_in c.args.scopes.now)) c.in_default-loose.is c.in_ok-refusal-2.field-0 (c.in_ok-refusal-2.ensures ∙ ap (λ modules. first_of (in_modules G14 params_twice modules)) c.requires.same) c.in_default-2.is c.first_in_scopes-2.result
    (subst (λ those. IfOk c.first_in_scopes-2.result (λ found. found ≡ first_of those)) (in_scopes (λ m. map (refused G15 m.name) (other_ranges m)) c.args.scopes.now) c.first_in_scopes-2.ensures)
