use Rattle.std.proofs.Common.{◌∙◌, arith, length, ap}
use Rattle.std.proofs.lemmas.List.{length-map}
use Rattle.vlog_reach.proofs.ReachLaws.{graph_is}
use Rattle.vlog_reach.proofs.reach.graph_of.Goals as goal

pub graph_by-requires : goal.graph_by-requires
graph_by-requires c = omega (arith, ap length c.requires.are_named, length-map c.args.modules.now (λ m. m.name), c.requires.few)

pub returns : goal.returns
returns c = c.in_ok-graph.ensures ∙ graph_is c.args.modules.now c.args.names.now c.requires.are_named
