use Rattle.std.proofs.Common.{◌∙◌, sym}
use Rattle.vlog_checked.proofs.Grouping.{none_first, refused_in_file}
use Rattle.vlog_checked.specs.Groups.{file_refusals}
use Rattle.vlog_checked.proofs.check.check_file.Goals as goal

pub returns-in-Some : goal.returns-in-Some
returns-in-Some c = refused_in_file c.args.file.now c.args.top.now c.in-Some.refusal (sym c.in-Some.is ∙ c.in_ok-refusal.ensures)

pub check_modules-requires-clause-named : goal.check_modules-requires-clause-named
check_modules-requires-clause-named c = none_first (file_refusals c.args.file.now c.args.top.now) (sym c.in_default.is ∙ c.in_ok-refusal.ensures)
