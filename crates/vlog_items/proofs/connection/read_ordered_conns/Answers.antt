use Rattle.std.proofs.Common.{arith}
use Rattle.vlog_items.proofs.Ordered.{ordered_is, ordered_size}
use Rattle.vlog_items.proofs.connection.read_ordered_conns.Goals as goal

pub returns-clause-value : goal.returns-clause-value
returns-clause-value g c = ordered_is _ _ c.order_of.ensures c.in_ok-exprs.ensures.value.all

pub returns-clause-size : goal.returns-clause-size
returns-clause-size g c = omega (arith, ordered_size _ _ c.order_of.ensures, c.in_ok-exprs.ensures.size)
