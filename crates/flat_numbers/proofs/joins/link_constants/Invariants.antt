use Rattle.flat_numbers.specs.FlatJoins.{ConstantAt}
use Rattle.flat_numbers.specs.Forest.{LinksMore}
use Rattle.flat_numbers.specs.Layout.{base_of}
use Rattle.flat_numbers.proofs.Linking.{Below}
use Rattle.flat_numbers.proofs.joins.link_constants.Given as goal

abbrev pub invariant-loop-place : goal.invariant-loop-place
invariant-loop-place l = LinksMore l.tables.layout.count l.fn.parents l.parents (Below (ConstantAt l.names l.hier.cells l.tables.layout.spots.items (base_of l.tables.layout.bases.items l.tables.layout.count) l.number) l.place)
