use Rattle.vlog_design.proofs.ExprLemmas.{bits-Cat, literals-Cat}
use Rattle.vlog_design.proofs.node_joins.push_expr_joins.Goals as goal

pub push_parts_joins-requires-clause-digits : goal.push_parts_joins-requires-clause-digits
push_parts_joins-requires-clause-digits c = (rw (c.in-Cat.is, literals-Cat, ← c.items.ensures) at c.requires.digits)

pub returns-in-Cat-clause-added : goal.returns-in-Cat-clause-added
returns-in-Cat-clause-added c = rw (c.in-Cat.is, bits-Cat, ← c.items.ensures) c.push_parts_joins.ensures.added

pub returns-in-Cat-clause-left : goal.returns-in-Cat-clause-left
returns-in-Cat-clause-left c = rw (c.in-Cat.is, bits-Cat, ← c.items.ensures) c.push_parts_joins.ensures.left
