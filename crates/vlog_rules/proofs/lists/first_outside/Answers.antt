use Rattle.std.proofs.Common.{option_copied}
use Rattle.vlog_design.specs.Tables.{names_of}
use Rattle.vlog_rules.proofs.SetLaws.{outside}
use Rattle.vlog_rules.proofs.lists.first_outside.Goals as goal

pub returns : goal.returns
returns c = outside c.in_ok-set.set (names_of c.args.others.now) (names_of c.args.names.now) (option_copied c.first_not_in-found.result) c.first_not_in-found.ensures c.in_ok-set.ensures
