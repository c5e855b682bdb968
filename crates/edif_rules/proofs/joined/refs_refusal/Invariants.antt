use Rattle.std.proofs.Common.{◌≡◌, ◌++◌, map, take}
use Rattle.std.specs.List.{filter_map, flat_map}
use Rattle.edif_lookup.specs.Refusals.{lowest}
use Rattle.edif_rules.specs.RefRefusals.{ref_refusals_by, ref_node}
use Rattle.edif_rules.specs.Scopes.{lists_of}
use Rattle.edif_rules.specs.Spots.{node_at}
use Rattle.edif_rules.proofs.joined.refs_refusal.Given as goal

abbrev pub invariant-loop-reference : goal.invariant-loop-reference
invariant-loop-reference l = record {
  best : l.best ≡ lowest (flat_map (ref_refusals_by (lists_of l.scope) l.names.cell.now l.names.net.now l.taken) (take l.reference-index l.joined));
  spots : map node_at l.spots.items ≡ map node_at l.initial.spots.items ++ filter_map (ref_node (lists_of l.scope)) (take l.reference-index l.joined);
}
