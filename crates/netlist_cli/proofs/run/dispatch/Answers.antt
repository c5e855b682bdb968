use Rattle.std.proofs.Common.{refl}
use Rattle.netlist_cli.proofs.Ends.{takes_none}
use Rattle.netlist_cli.proofs.run.dispatch.Goals as goal

pub returns-in-Generate-clause-does : goal.returns-in-Generate-clause-does
returns-in-Generate-clause-does g c = rw c.in-Generate.is (c.write_generated.ensures.does (g.S.Source.supply c.args.input.now))

pub returns-in-Generate-clause-unread : goal.returns-in-Generate-clause-unread
returns-in-Generate-clause-unread g c = λ h. (refl, c.write_generated.ensures.ends)

pub returns-in-Generate-clause-taken : goal.returns-in-Generate-clause-taken
returns-in-Generate-clause-taken g c = takes_none (g.S.Source.supply c.args.input.now)
