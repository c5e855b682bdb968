use Rattle.net_graph.proofs.ListLaws.{said_of_none}
use Rattle.net_hier.proofs.build.recursion_fault.Goals as goal

pub unreachable-requires : goal.unreachable-requires
unreachable-requires c = said_of_none c.in-Ok-None.field-0 _ _ c.in-Ok-None.field-0-is c.in-Ok-None.ensures c.requires.some.0 c.requires.some.1
