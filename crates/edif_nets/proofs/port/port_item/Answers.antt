use Rattle.edif_nets.proofs.Kept.{one_direction_read}
use Rattle.edif_nets.proofs.port.port_item.Goals as goal

pub returns-clause-one : goal.returns-clause-one
returns-clause-one g c = one_direction_read c.args.directed _ _ (rw c.port_keywords.ensures at c.in_ok-keyword.ensures.allowed) c.port_form.ensures.kind
