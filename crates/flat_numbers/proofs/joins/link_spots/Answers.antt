use Rattle.std.proofs.Common.{◌≡◌, ◌+◌, arith, ap, length, inl, subst}
use Rattle.std.specs.Prelude.{Contains}
use Rattle.std.proofs.lemmas.Option.{slice_get_within}
use Rattle.net_hier.specs.Design.{IsCell}
use Rattle.net_hier.specs.declared.cells.HCell.{HCell}
use Rattle.flat_numbers.specs.FlatJoins.{ConstantsOf, LinksOf, links_in}
use Rattle.flat_numbers.specs.Layout.{base_of}
use Rattle.flat_numbers.specs.Numbers.{CellOf, FlatJoin}
use Rattle.flat_numbers.proofs.Finding.{cell_there_at}
use Rattle.flat_numbers.proofs.Linking.{Below, JoinsOf, below_more, forest_more, joins_whole, links_along, links_by, links_none, links_of_cell, spot_joins}
use Rattle.flat_numbers.proofs.joins.link_spots.Goals as goal

pub links_at-here-requires-clause-cells : goal.links_at-here-requires-clause-cells
links_at-here-requires-clause-cells c =
    let at = cell_there_at c.args.hier.now.cells c.args.hier.now.top c.requires.are_tables.0 c.args.tables.now.layout c.requires.are_tables.1.is_layout c.loop-number.number c.index.result.now (omega (arith, c.loop-number-test.true, c.len-number-end.ensures, c.args.tables.now.layout.spots.ok)) c.index.ensures in
    let cell : HCell = at.0 in
    let is : IsCell c.args.hier.now.cells c.index.result.now.cell cell = at.1 in
    let lt = slice_get_within c.args.hier.now.cells c.index.result.now.cell cell is in
    let e = ap length c.cells-cells.ensures.cells in omega (arith, lt, e)

pub link_links-requires-clause-links : goal.link_links-requires-clause-links
link_links-requires-clause-links c =
    let at = cell_there_at c.args.hier.now.cells c.args.hier.now.top c.requires.are_tables.0 c.args.tables.now.layout c.requires.are_tables.1.is_layout c.loop-number.number c.index.result.now (omega (arith, c.loop-number-test.true, c.len-number-end.ensures, c.args.tables.now.layout.spots.ok)) c.index.ensures in
    let cell : HCell = at.0 in
    let is : IsCell c.args.hier.now.cells c.index.result.now.cell cell = at.1 in
    let lt = slice_get_within c.args.hier.now.cells c.index.result.now.cell cell is in
    let of : CellOf c.args.hier.now.cells c.args.tables.now.layout.spots.items c.loop-number.number cell = record { spot = c.index.result.now; is_spot = at.2; is_cell = is } in
    let e : c.links_at-here.result.now ≡ links_in c.args.hier.now.cells c.args.links.now c.index.result.now.cell = subst (λ cs. c.links_at-here.result.now ≡ links_in cs c.args.links.now c.index.result.now.cell) c.cells-cells.ensures.cells c.links_at-here.ensures in
    let links = c.requires.are_links.are c.index.result.now.cell cell is in
    record {
      cell = cell;
      of_cell = of;
      are_nodes = λ link there. links.in_range link.a link.b (inl (subst (λ w. Contains w link) e there));
    }

pub link_links-requires-clause-forest : goal.link_links-requires-clause-forest
link_links-requires-clause-forest c = forest_more c.args.tables.now.layout.count c.args.parents.now c.loop-number.parents (Below (JoinsOf c.args.names.now c.args.hier.now.cells c.args.tables.now.layout.spots.items (base_of c.args.tables.now.layout.bases.items c.args.tables.now.layout.count) (links_in c.args.hier.now.cells c.args.links.now)) c.loop-number.number) c.requires.forest c.loop-number.invariant

pub link_constants-requires-clause-forest : goal.link_constants-requires-clause-forest
link_constants-requires-clause-forest c = forest_more c.args.tables.now.layout.count c.loop-number.parents c.link_links.new.parents (LinksOf c.args.hier.now.cells c.args.tables.now.layout.spots.items (base_of c.args.tables.now.layout.bases.items c.args.tables.now.layout.count) (λ _. c.links_at-here.result.now) c.loop-number.number) (forest_more c.args.tables.now.layout.count c.args.parents.now c.loop-number.parents (Below (JoinsOf c.args.names.now c.args.hier.now.cells c.args.tables.now.layout.spots.items (base_of c.args.tables.now.layout.bases.items c.args.tables.now.layout.count) (links_in c.args.hier.now.cells c.args.links.now)) c.loop-number.number) c.requires.forest c.loop-number.invariant) c.link_links.ensures

pub loop-number-init : goal.loop-number-init
loop-number-init c = links_none c.args.tables.now.layout.count _ _ (λ u v n. let lt = n.1 in omega (arith, lt))

pub loop-number-preserved : goal.loop-number-preserved
loop-number-preserved c =
    let at = cell_there_at c.args.hier.now.cells c.args.hier.now.top c.requires.are_tables.0 c.args.tables.now.layout c.requires.are_tables.1.is_layout c.loop-number.number c.index.result.now (omega (arith, c.loop-number-test.true, c.len-number-end.ensures, c.args.tables.now.layout.spots.ok)) c.index.ensures in
    let cell : HCell = at.0 in
    let is : IsCell c.args.hier.now.cells c.index.result.now.cell cell = at.1 in
    let lt = slice_get_within c.args.hier.now.cells c.index.result.now.cell cell is in
    let of : CellOf c.args.hier.now.cells c.args.tables.now.layout.spots.items c.loop-number.number cell = record { spot = c.index.result.now; is_spot = at.2; is_cell = is } in
    let e : c.links_at-here.result.now ≡ links_in c.args.hier.now.cells c.args.links.now c.index.result.now.cell = subst (λ cs. c.links_at-here.result.now ≡ links_in cs c.args.links.now c.index.result.now.cell) c.cells-cells.ensures.cells c.links_at-here.ensures in
    let spot = links_along c.args.tables.now.layout.count c.loop-number.parents c.link_links.new.parents c.link_constants.new.parents (LinksOf c.args.hier.now.cells c.args.tables.now.layout.spots.items (base_of c.args.tables.now.layout.bases.items c.args.tables.now.layout.count) (λ _. c.links_at-here.result.now) c.loop-number.number) (ConstantsOf c.args.names.now c.args.hier.now.cells c.args.tables.now.layout.spots.items (base_of c.args.tables.now.layout.bases.items c.args.tables.now.layout.count) c.loop-number.number) (JoinsOf c.args.names.now c.args.hier.now.cells c.args.tables.now.layout.spots.items (base_of c.args.tables.now.layout.bases.items c.args.tables.now.layout.count) (links_in c.args.hier.now.cells c.args.links.now) c.loop-number.number)
    (λ x y z p q. spot_joins c.args.names.now c.args.hier.now.cells c.args.tables.now.layout.spots.items (base_of c.args.tables.now.layout.bases.items c.args.tables.now.layout.count) (links_in c.args.hier.now.cells c.args.links.now) c.loop-number.number x y z
    (links_of_cell c.args.hier.now.cells c.args.tables.now.layout.spots.items (base_of c.args.tables.now.layout.bases.items c.args.tables.now.layout.count) (links_in c.args.hier.now.cells c.args.links.now) c.loop-number.number c.links_at-here.result.now cell x y of e p) q)
    c.link_links.ensures c.link_constants.ensures in
    links_along c.args.tables.now.layout.count c.args.parents.now c.loop-number.parents c.link_constants.new.parents (Below (JoinsOf c.args.names.now c.args.hier.now.cells c.args.tables.now.layout.spots.items (base_of c.args.tables.now.layout.bases.items c.args.tables.now.layout.count) (links_in c.args.hier.now.cells c.args.links.now)) c.loop-number.number) (JoinsOf c.args.names.now c.args.hier.now.cells c.args.tables.now.layout.spots.items (base_of c.args.tables.now.layout.bases.items c.args.tables.now.layout.count) (links_in c.args.hier.now.cells c.args.links.now) c.loop-number.number) (Below (JoinsOf c.args.names.now c.args.hier.now.cells c.args.tables.now.layout.spots.items (base_of c.args.tables.now.layout.bases.items c.args.tables.now.layout.count) (links_in c.args.hier.now.cells c.args.links.now)) (c.loop-number.number + 1)) (below_more (JoinsOf c.args.names.now c.args.hier.now.cells c.args.tables.now.layout.spots.items (base_of c.args.tables.now.layout.bases.items c.args.tables.now.layout.count) (links_in c.args.hier.now.cells c.args.links.now)) c.loop-number.number) c.loop-number.invariant spot

pub returns : goal.returns
returns c = links_by c.args.tables.now.layout.count c.args.parents.now c.loop-number.parents (Below (JoinsOf c.args.names.now c.args.hier.now.cells c.args.tables.now.layout.spots.items (base_of c.args.tables.now.layout.bases.items c.args.tables.now.layout.count) (links_in c.args.hier.now.cells c.args.links.now)) c.loop-number.number) (FlatJoin c.args.names.now c.args.hier.now.cells c.args.tables.now.layout.spots.items (base_of c.args.tables.now.layout.bases.items c.args.tables.now.layout.count) (links_in c.args.hier.now.cells c.args.links.now))
    (λ x y e. joins_whole c.args.names.now c.args.hier.now.cells c.args.tables.now.layout.spots.items (base_of c.args.tables.now.layout.bases.items c.args.tables.now.layout.count) (links_in c.args.hier.now.cells c.args.links.now) c.loop-number.number x y (omega (arith, c.loop-number-test.false, c.len-number-end.ensures, c.args.tables.now.layout.spots.ok)) e)
    c.loop-number.invariant
