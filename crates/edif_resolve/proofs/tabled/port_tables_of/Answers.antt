use Rattle.std.proofs.Common.{arith}
use Rattle.edif_resolve.proofs.Numbers.{port_tables_done}
use Rattle.edif_resolve.proofs.Sizes.{place_small}
use Rattle.edif_resolve.proofs.tabled.port_tables_of.Goals as goal

pub of-requires : goal.of-requires
of-requires c = place_small c.args.tables.now c.places-place-items.result.now c.places-place-items.ensures 268435456 c.requires c.loop-place.place-index c.place-item.result (omega arith) c.place-item.is

pub returns : goal.returns
returns c = port_tables_done c.args.tables.now c.places-place-items.result.now c.places-place-items.ensures c.loop-place.place-index (omega arith) c.loop-place.port_tables.items c.loop-place.invariant
