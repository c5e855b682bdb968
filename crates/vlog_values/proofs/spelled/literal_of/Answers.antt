use Rattle.vlog_values.proofs.SpelledLaws.{exact}
use Rattle.vlog_values.proofs.spelled.literal_of.Goals as goal

pub returns-clause-exact : goal.returns-clause-exact
returns-clause-exact c = exact c.args.text.now c.in_ok-found.found c.in_ok-found.ensures
