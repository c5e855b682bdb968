use Rattle.netlist_cli.proofs.Ends.{takes_none}
use Rattle.netlist_cli.proofs.run.dispatch_asked.Goals as goal

pub returns-in-None-clause-taken : goal.returns-in-None-clause-taken
returns-in-None-clause-taken g c = takes_none (g.S.Source.supply c.args.input.now)
