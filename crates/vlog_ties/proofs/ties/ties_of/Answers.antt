use Rattle.vlog_ties.specs.Ties.{modules_in}
use Rattle.vlog_ties.proofs.ModuleLaws.{gathered, ties_joined, ties_paired}
use Rattle.vlog_ties.proofs.Places.{instances_of_module}
use Rattle.vlog_ties.proofs.ties.ties_of.Goals as goal

pub push_items-requires-clause-few : goal.push_items-requires-clause-few
push_items-requires-clause-few c = instances_of_module c.args.m.now _ c.items.ensures c.requires.small

pub returns-clause-value : goal.returns-clause-value
returns-clause-value c = gathered (modules_in c.args.scopes.now) c.args.m.now _ _ _ c.in_ok-ties.ensures.items c.items.ensures c.in_ok-push_items.ensures.added

pub returns-clause-pairings : goal.returns-clause-pairings
returns-clause-pairings c = ties_paired (modules_in c.args.scopes.now) c.args.m.now _ (gathered (modules_in c.args.scopes.now) c.args.m.now _ _ _ c.in_ok-ties.ensures.items c.items.ensures c.in_ok-push_items.ensures.added)

pub returns-clause-joins : goal.returns-clause-joins
returns-clause-joins c = ties_joined (modules_in c.args.scopes.now) c.args.m.now _ (gathered (modules_in c.args.scopes.now) c.args.m.now _ _ _ c.in_ok-ties.ensures.items c.items.ensures c.in_ok-push_items.ensures.added)
