use Rattle.std.proofs.Common.{◌++◌, ◌∙◌, sym}
use Rattle.nl_base.specs.declared.rule.Rule.TheVariants.{G6, G7, G8}
use Rattle.vlog_design.specs.Rules.{bad_selects, in_modules, unequal_widths, unknown_names}
use Rattle.vlog_ties.specs.Ties.{modules_in}
use Rattle.vlog_checked.specs.Groups.{name_refusals}
use Rattle.vlog_checked.proofs.Firsts.{behind, two_first}
use Rattle.vlog_checked.proofs.tables.first_in_names.Goals as goal

pub returns-in-Some : goal.returns-in-Some
unfolding name_refusals
returns-in-Some c =
    let modules = modules_in c.args.scopes.now in
    two_first (in_modules G6 unknown_names modules ++ in_modules G7 bad_selects modules) (in_modules G8 (unequal_widths modules) modules) c.in_ok-refusal.field-0 c.in_ok-refusal.ensures c.in-Some.refusal c.in-Some.is

pub returns : goal.returns
unfolding name_refusals
returns c =
    let modules = modules_in c.args.scopes.now in
    behind (in_modules G6 unknown_names modules ++ in_modules G7 bad_selects modules) (in_modules G8 (unequal_widths modules) modules) c.args.unequal (sym c.in_default.is ∙ c.in_ok-refusal.ensures) c.requires.unequal
