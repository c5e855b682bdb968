use Rattle.std.proofs.Common.{arith}
use Rattle.edif_rules.specs.Scopes.{lists_of}
use Rattle.edif_cells.proofs.GoodSizes.{spot_small}
use Rattle.edif_cells.proofs.joins.push_join.Goals as goal

pub node_at-requires : goal.node_at-requires
node_at-requires c = omega (arith, spot_small (lists_of c.args.scope.now) c.requires c.in_ok-found.found c.member_of.result c.in-Some.spot c.in-Some.ensures)
