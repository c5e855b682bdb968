use Rattle.nl_base.specs.declared.rule.Rule.TheVariants.{G16, G17}
use Rattle.vlog_design.specs.Rules.{in_modules, recursions, unknown_instances}
use Rattle.vlog_design.specs.Tables.{modules_of}
use Rattle.vlog_checked.specs.Groups.{design_refusals}
use Rattle.vlog_checked.proofs.Firsts.{two_first, two_last}
use Rattle.vlog_checked.proofs.tables.first_in_instances.Goals as goal

pub returns-in-Some : goal.returns-in-Some
unfolding design_refusals
returns-in-Some c = two_first (in_modules G16 (recursions (modules_of c.args.modules.now)) (modules_of c.args.modules.now)) (in_modules G17 unknown_instances (modules_of c.args.modules.now)) c.in_ok-refusal.field-0 c.in_ok-refusal.ensures c.in-Some.refusal c.in-Some.is

pub returns : goal.returns
unfolding design_refusals
returns c = two_last (in_modules G16 (recursions (modules_of c.args.modules.now)) (modules_of c.args.modules.now)) (in_modules G17 unknown_instances (modules_of c.args.modules.now)) c.in_ok-refusal.field-0 c.in_ok-refusal.ensures c.in_default.is c.first_in_modules.result c.first_in_modules.ensures
