use Rattle.net_bits.proofs.flood.all_of.Goals as goal

pub unreachable-requires : goal.unreachable-requires
unreachable-requires c = let has = (c.requires c.loop-class.class-index c.loop-class-test.true).1 in let none = c.in-None.is in cc
