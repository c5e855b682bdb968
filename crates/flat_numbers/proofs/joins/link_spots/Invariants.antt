use Rattle.flat_numbers.specs.FlatJoins.{links_in}
use Rattle.flat_numbers.specs.Forest.{LinksMore}
use Rattle.flat_numbers.specs.Layout.{base_of}
use Rattle.flat_numbers.proofs.Linking.{Below, JoinsOf}
use Rattle.flat_numbers.proofs.joins.link_spots.Given as goal

abbrev pub invariant-loop-number : goal.invariant-loop-number
invariant-loop-number l = LinksMore l.tables.layout.count l.fn.parents l.parents (Below (JoinsOf l.names l.hier.cells l.tables.layout.spots.items (base_of l.tables.layout.bases.items l.tables.layout.count) (links_in l.hier.cells l.links)) l.number)
