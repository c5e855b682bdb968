use Rattle.std.proofs.Common.{arith}
use Rattle.edif_resolve.proofs.Numbers.{graph_done}
use Rattle.edif_resolve.proofs.below.graph_of.Goals as goal

pub returns : goal.returns
returns c = graph_done c.args.tables.now c.places-place-items.result.now c.places-place-items.ensures c.loop-place.place-index (omega arith) c.loop-place.graph.items c.loop-place.invariant
