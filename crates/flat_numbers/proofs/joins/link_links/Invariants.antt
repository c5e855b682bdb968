use Rattle.flat_numbers.specs.Forest.{LinksMore}
use Rattle.flat_numbers.specs.Layout.{base_of}
use Rattle.flat_numbers.proofs.Linking.{LinksBefore}
use Rattle.flat_numbers.proofs.joins.link_links.Given as goal

abbrev pub invariant-loop-link : goal.invariant-loop-link
invariant-loop-link l = LinksMore l.tables.layout.count l.fn.parents l.parents (LinksBefore l.hier.cells l.tables.layout.spots.items (base_of l.tables.layout.bases.items l.tables.layout.count) l.number l.links l.link-index)
