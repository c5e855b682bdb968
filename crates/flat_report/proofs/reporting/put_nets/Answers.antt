use Rattle.std.proofs.Common.{◌<◌, subst, sym, length, arith}
use Rattle.std.specs.Prelude.{All}
use Rattle.flat_report.proofs.GroupTexts.{member_within}
use Rattle.flat_report.proofs.reporting.put_nets.Goals as goal

pub put_net-requires-clause-places : goal.put_net-requires-clause-places
put_net-requires-clause-places g c =
    subst (All (λ place. place < length c.args.flat.now.terminals)) (sym c.of.ensures)
    (member_within c.args.flat.now c.args.members.now c.loop-group.group (length c.args.flat.now.terminals) c.requires.members (omega (arith, c.count-group-end.ensures, c.loop-group-test.true)) c.requires.classes.1.are_numbers.len)
