use Rattle.std.proofs.Common.{refl, Some}
use Rattle.netlist_cli.proofs.Ends.{asked_fits, takes_none}
use Rattle.netlist_cli.proofs.run.do_words.Goals as goal

pub returns-in-Ok-clause-performs : goal.returns-in-Ok-clause-performs
returns-in-Ok-clause-performs g c = record { asked = c.in-Ok.asked; is_asked = rw c.in-Ok.is at c.of.ensures; performed = c.dispatch_asked-result.ensures.performs }

pub returns-in-Err : goal.returns-in-Err
returns-in-Err g c =
    let asked = rw c.in-Err.is at c.of.ensures in
    record {
      performs = record { asked = Some asked.0; is_asked = asked.1; performed = ((tt, refl), λ unread. (refl, tt)) };
      taken = takes_none (g.S.Source.supply c.args.input.now);
    }

pub dispatch_asked-result-requires : goal.dispatch_asked-result-requires
dispatch_asked-result-requires g c = asked_fits c.args.words.now c.in-Ok.asked (rw c.in-Ok.is at c.of.ensures)
