use Rattle.std.proofs.Common.{ap, sym, subst, arith}
use Rattle.std.specs.List.{AllByRecursion}
use Rattle.readers.specs.Readers.{room}
use Rattle.readers.proofs.Choices.{loops}
use Rattle.vlog_exprs.specs.Grammar.{commas}
use Rattle.vlog_values.specs.Values.{IsNamedConn}
use Rattle.vlog_values.specs.Sizes.{conn_size, list_size}
use Rattle.vlog_items.proofs.Lists.{room_added, size_added, some_added, collects}
use Rattle.vlog_items.proofs.connection.read_more_named.Goals as goal

pub loop-conns-init : goal.loop-conns-init
unfolding commas
loop-conns-init g c = collects (grind (arith, loops)) c.requires (omega arith)

pub returns-in_err-takes-clause-reads : goal.returns-in_err-takes-clause-reads
unfolding commas
returns-in_err-takes-clause-reads g c = grind (arith, loops)

pub returns-in_err-conn-clause-reads : goal.returns-in_err-conn-clause-reads
unfolding commas
returns-in_err-conn-clause-reads g c = grind (arith, loops)

pub loop-conns-smaller : goal.loop-conns-smaller
unfolding commas
loop-conns-smaller g c = grind (arith, loops)

pub returns-in_err-conns-clause-reads : goal.returns-in_err-conns-clause-reads
unfolding commas
returns-in_err-conns-clause-reads g c = grind (arith, loops)

pub loop-conns-preserved : goal.loop-conns-preserved
unfolding commas
loop-conns-preserved g c =
    let all = subst (AllByRecursion IsNamedConn) (sym c.in_ok-conns.ensures.boxed) c.loop-conns.invariant.good.all in
    collects (grind (arith, loops)) (some_added c.in_ok-add.ensures IsNamedConn all c.in_ok-conn.ensures.value)
    (omega (arith, size_added c.in_ok-add.ensures conn_size, room_added c.in_ok-add.ensures, ap (list_size conn_size) c.in_ok-conns.ensures.boxed, ap room c.in_ok-conns.ensures.kept, c.in_ok-takes.ensures.value.2, c.in_ok-conn.ensures.size))

pub returns-in_err-add-clause-reads : goal.returns-in_err-add-clause-reads
unfolding commas
returns-in_err-add-clause-reads g c = grind (arith, loops)

pub returns-in_err-mark-clause-reads : goal.returns-in_err-mark-clause-reads
unfolding commas
returns-in_err-mark-clause-reads g c = grind (arith, loops)

pub returns-clause-reads : goal.returns-clause-reads
unfolding commas
returns-clause-reads g c = grind (arith, loops)
