use Rattle.vlog_design.specs.Rules.{modules_twice, no_top}
use Rattle.vlog_checked.specs.Groups.{file_refusals}
use Rattle.vlog_checked.proofs.Firsts.{two_first, two_last}
use Rattle.vlog_checked.proofs.modules.first_in_file.Goals as goal

pub returns-in-Some : goal.returns-in-Some
unfolding file_refusals
returns-in-Some c = two_first (no_top c.args.file.now c.args.top.now) (modules_twice c.args.file.now) c.in_ok-refusal.field-0 c.in_ok-refusal.ensures c.in-Some.refusal c.in-Some.is

pub returns : goal.returns
unfolding file_refusals
returns c = two_last (no_top c.args.file.now c.args.top.now) (modules_twice c.args.file.now) c.in_ok-refusal.field-0 c.in_ok-refusal.ensures c.in_default.is c.module_twice.result c.module_twice.ensures
