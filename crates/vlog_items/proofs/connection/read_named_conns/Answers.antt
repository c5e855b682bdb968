use Rattle.std.proofs.Common.{ap, arith}
use Rattle.readers.specs.Readers.{room}
use Rattle.readers.proofs.Reading.{sequences}
use Rattle.vlog_items.specs.Grammar.{named_conns}
use Rattle.vlog_values.specs.Values.{IsNamedConn}
use Rattle.vlog_values.specs.Sizes.{conn_size, list_size}
use Rattle.vlog_items.proofs.Lists.{room_added, first_size, first_added}
use Rattle.vlog_items.proofs.connection.read_named_conns.Goals as goal

pub returns-in_err-first-clause-reads : goal.returns-in_err-first-clause-reads
unfolding named_conns
returns-in_err-first-clause-reads g c = grind (arith, sequences)

pub returns-in_err-add-clause-reads : goal.returns-in_err-add-clause-reads
unfolding named_conns
returns-in_err-add-clause-reads g c = grind (arith, sequences)

pub returns-in_err-conns-clause-reads : goal.returns-in_err-conns-clause-reads
unfolding named_conns
returns-in_err-conns-clause-reads g c = grind (arith, sequences)

pub returns-in_err-conns-2-clause-reads : goal.returns-in_err-conns-2-clause-reads
unfolding named_conns
returns-in_err-conns-2-clause-reads g c = grind (arith, sequences)

pub returns-clause-reads : goal.returns-clause-reads
unfolding named_conns
returns-clause-reads g c = grind (arith, sequences)

pub read_more_named-requires : goal.read_more_named-requires
read_more_named-requires g c = first_added c.in_ok-add.ensures c.seq_with_room-conns.ensures IsNamedConn c.in_ok-first.ensures.value

pub returns-clause-size : goal.returns-clause-size
returns-clause-size g c = omega (arith, ap (list_size conn_size) c.in_ok-conns-2.ensures.boxed, ap room c.in_ok-conns-2.ensures.kept, first_size c.in_ok-add.ensures c.seq_with_room-conns.ensures conn_size, room_added c.in_ok-add.ensures, c.in_ok-first.ensures.size, c.in_ok-conns.ensures.size)
