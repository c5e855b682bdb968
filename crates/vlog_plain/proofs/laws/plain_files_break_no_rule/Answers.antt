use Rattle.vlog_plain.proofs.FirstRule.{no_rule_broken}
use Rattle.vlog_plain.proofs.laws.plain_files_break_no_rule.Goals as goal

pub returns : goal.returns
returns c = λ ps top name file. no_rule_broken ps top name file
