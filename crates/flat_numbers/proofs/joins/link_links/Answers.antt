use Rattle.std.proofs.Common.{◌≡◌, ◌+◌, ◌++◌, [], ◌∷◌, length, arith, get_or, slice_get, Some, refl}
use Rattle.std.proofs.lemmas.Option.{slice_get-get_or}
use Rattle.net_hier.specs.declared.nodes.Join.{Join}
use Rattle.net_hier.specs.declared.nodes.Node.TheVariants.{Port}
use Rattle.flat_numbers.specs.FlatJoins.{LinksOf}
use Rattle.flat_numbers.specs.Layout.{base_of}
use Rattle.flat_numbers.specs.Tables.{rows_in}
use Rattle.flat_numbers.proofs.Bounds.{node_below}
use Rattle.flat_numbers.proofs.Finding.{number_got}
use Rattle.flat_numbers.proofs.Linking.{LinksBefore, contains_there, extends_push, forest_labels, forest_more, links_apart, links_by, links_here, links_kept, links_none, links_push, links_whole}
use Rattle.flat_numbers.proofs.joins.link_links.Goals as goal

pub loop-link-init : goal.loop-link-init
loop-link-init c = links_none c.args.tables.now.layout.count _ _ (λ u v h. let lt = h.is_done in omega (arith, lt))

pub node_number-a-requires-clause-is_node : goal.node_number-a-requires-clause-is_node
node_number-a-requires-clause-is_node c =
    let link : Join = get_or c.args.links.now c.loop-link.link-index (record { a = Port 0 0; b = Port 0 0 }) in
    let there : slice_get c.args.links.now c.loop-link.link-index ≡ Some link = slice_get-get_or c.args.links.now c.loop-link.link-index (record { a = Port 0 0; b = Port 0 0 }) c.loop-link-test.true in
    let nodes = c.requires.links.are_nodes link (contains_there c.args.links.now c.loop-link.link-index link there) in
    (c.requires.links.cell, c.requires.links.of_cell, nodes.0)

pub node_number-b-requires-clause-is_node : goal.node_number-b-requires-clause-is_node
node_number-b-requires-clause-is_node c =
    let link : Join = get_or c.args.links.now c.loop-link.link-index (record { a = Port 0 0; b = Port 0 0 }) in
    let there : slice_get c.args.links.now c.loop-link.link-index ≡ Some link = slice_get-get_or c.args.links.now c.loop-link.link-index (record { a = Port 0 0; b = Port 0 0 }) c.loop-link-test.true in
    let nodes = c.requires.links.are_nodes link (contains_there c.args.links.now c.loop-link.link-index link there) in
    (c.requires.links.cell, c.requires.links.of_cell, nodes.1)

pub join_roots-requires-clause-a : goal.join_roots-requires-clause-a
join_roots-requires-clause-a c =
    let link : Join = get_or c.args.links.now c.loop-link.link-index (record { a = Port 0 0; b = Port 0 0 }) in
    let there : slice_get c.args.links.now c.loop-link.link-index ≡ Some link = slice_get-get_or c.args.links.now c.loop-link.link-index (record { a = Port 0 0; b = Port 0 0 }) c.loop-link-test.true in
    let nodes = c.requires.links.are_nodes link (contains_there c.args.links.now c.loop-link.link-index link there) in
    let a = number_got c.args.hier.now c.cells-cells.ensures.valid.valid c.requires.are_tables.0 c.requires.are_tables.2 c.args.tables.now.layout c.args.tables.now.belows (rows_in c.args.tables.now.offsets.items) c.requires.are_tables.1 c.args.number c.requires.links.cell link.a c.node_number-a.result c.requires.links.of_cell nodes.0 c.node_number-a.ensures in
    let below = node_below c.args.hier.now c.requires.are_tables.0 c.args.tables.now.layout c.args.tables.now.belows (rows_in c.args.tables.now.offsets.items) c.requires.are_tables.1 c.cells-cells.ensures.valid.valid c.args.number c.requires.links.cell link.a c.node_number-a.result c.requires.links.of_cell a in
    let forest = forest_more c.args.tables.now.layout.count c.args.parents.now c.loop-link.parents (LinksBefore c.args.hier.now.cells c.args.tables.now.layout.spots.items (base_of c.args.tables.now.layout.bases.items c.args.tables.now.layout.count) c.args.number c.args.links.now c.loop-link.link-index) c.requires.forest c.loop-link.invariant in
    let size : length c.loop-link.parents ≡ c.args.tables.now.layout.count = forest.1.len in
    omega (arith, below, size)

pub join_roots-requires-clause-b : goal.join_roots-requires-clause-b
join_roots-requires-clause-b c =
    let link : Join = get_or c.args.links.now c.loop-link.link-index (record { a = Port 0 0; b = Port 0 0 }) in
    let there : slice_get c.args.links.now c.loop-link.link-index ≡ Some link = slice_get-get_or c.args.links.now c.loop-link.link-index (record { a = Port 0 0; b = Port 0 0 }) c.loop-link-test.true in
    let nodes = c.requires.links.are_nodes link (contains_there c.args.links.now c.loop-link.link-index link there) in
    let b = number_got c.args.hier.now c.cells-cells.ensures.valid.valid c.requires.are_tables.0 c.requires.are_tables.2 c.args.tables.now.layout c.args.tables.now.belows (rows_in c.args.tables.now.offsets.items) c.requires.are_tables.1 c.args.number c.requires.links.cell link.b c.node_number-b.result c.requires.links.of_cell nodes.1 c.node_number-b.ensures in
    let below = node_below c.args.hier.now c.requires.are_tables.0 c.args.tables.now.layout c.args.tables.now.belows (rows_in c.args.tables.now.offsets.items) c.requires.are_tables.1 c.cells-cells.ensures.valid.valid c.args.number c.requires.links.cell link.b c.node_number-b.result c.requires.links.of_cell b in
    let forest = forest_more c.args.tables.now.layout.count c.args.parents.now c.loop-link.parents (LinksBefore c.args.hier.now.cells c.args.tables.now.layout.spots.items (base_of c.args.tables.now.layout.bases.items c.args.tables.now.layout.count) c.args.number c.args.links.now c.loop-link.link-index) c.requires.forest c.loop-link.invariant in
    let size : length c.loop-link.parents ≡ c.args.tables.now.layout.count = forest.1.len in
    omega (arith, below, size)

pub join_roots-requires-clause-labels : goal.join_roots-requires-clause-labels
join_roots-requires-clause-labels c = forest_labels c.args.tables.now.layout.count c.loop-link.parents (forest_more c.args.tables.now.layout.count c.args.parents.now c.loop-link.parents (LinksBefore c.args.hier.now.cells c.args.tables.now.layout.spots.items (base_of c.args.tables.now.layout.bases.items c.args.tables.now.layout.count) c.args.number c.args.links.now c.loop-link.link-index) c.requires.forest c.loop-link.invariant)

pub loop-link-preserved : goal.loop-link-preserved
loop-link-preserved c =
    let link : Join = get_or c.args.links.now c.loop-link.link-index (record { a = Port 0 0; b = Port 0 0 }) in
    let there : slice_get c.args.links.now c.loop-link.link-index ≡ Some link = slice_get-get_or c.args.links.now c.loop-link.link-index (record { a = Port 0 0; b = Port 0 0 }) c.loop-link-test.true in
    let nodes = c.requires.links.are_nodes link (contains_there c.args.links.now c.loop-link.link-index link there) in
    let a = number_got c.args.hier.now c.cells-cells.ensures.valid.valid c.requires.are_tables.0 c.requires.are_tables.2 c.args.tables.now.layout c.args.tables.now.belows (rows_in c.args.tables.now.offsets.items) c.requires.are_tables.1 c.args.number c.requires.links.cell link.a c.node_number-a.result c.requires.links.of_cell nodes.0 c.node_number-a.ensures in
    let b = number_got c.args.hier.now c.cells-cells.ensures.valid.valid c.requires.are_tables.0 c.requires.are_tables.2 c.args.tables.now.layout c.args.tables.now.belows (rows_in c.args.tables.now.offsets.items) c.requires.are_tables.1 c.args.number c.requires.links.cell link.b c.node_number-b.result c.requires.links.of_cell nodes.1 c.node_number-b.ensures in
    links_push c.args.tables.now.layout.count c.args.parents.now c.loop-link.parents c.join_roots.new.parents c.node_number-a.result c.node_number-b.result (LinksBefore c.args.hier.now.cells c.args.tables.now.layout.spots.items (base_of c.args.tables.now.layout.bases.items c.args.tables.now.layout.count) c.args.number c.args.links.now c.loop-link.link-index) (LinksBefore c.args.hier.now.cells c.args.tables.now.layout.spots.items (base_of c.args.tables.now.layout.bases.items c.args.tables.now.layout.count) c.args.number c.args.links.now (c.loop-link.link-index + 1)) c.join_roots.ensures.joined c.join_roots.ensures.len
    (λ x y e. extends_push x y (y ++ record { a = c.node_number-a.result; b = c.node_number-b.result } ∷ []) _ _ c.node_number-a.result c.node_number-b.result refl
    (links_apart c.args.hier.now.cells c.args.tables.now.layout.spots.items (base_of c.args.tables.now.layout.bases.items c.args.tables.now.layout.count) c.args.number c.args.links.now c.loop-link.link-index link there c.node_number-a.result c.node_number-b.result c.node_number-a.ensures c.node_number-b.ensures)
    (links_kept c.args.hier.now.cells c.args.tables.now.layout.spots.items (base_of c.args.tables.now.layout.bases.items c.args.tables.now.layout.count) c.args.number c.args.links.now c.loop-link.link-index link there c.node_number-a.result c.node_number-b.result c.node_number-a.ensures c.node_number-b.ensures)
    (links_here c.args.hier.now.cells c.args.tables.now.layout.spots.items (base_of c.args.tables.now.layout.bases.items c.args.tables.now.layout.count) c.args.number c.args.links.now c.loop-link.link-index link there c.node_number-a.result c.node_number-b.result c.node_number-a.ensures c.node_number-b.ensures c.requires.links.cell c.requires.links.of_cell a b)
    e)
    c.loop-link.invariant

pub returns : goal.returns
returns c = links_by c.args.tables.now.layout.count c.args.parents.now c.loop-link.parents (LinksBefore c.args.hier.now.cells c.args.tables.now.layout.spots.items (base_of c.args.tables.now.layout.bases.items c.args.tables.now.layout.count) c.args.number c.args.links.now c.loop-link.link-index) (LinksOf c.args.hier.now.cells c.args.tables.now.layout.spots.items (base_of c.args.tables.now.layout.bases.items c.args.tables.now.layout.count) (λ _. c.args.links.now) c.args.number)
    (λ x y e. links_whole c.args.hier.now.cells c.args.tables.now.layout.spots.items (base_of c.args.tables.now.layout.bases.items c.args.tables.now.layout.count) (λ _. c.args.links.now) c.args.number c.args.links.now c.loop-link.link-index c.requires.links.cell x y c.requires.links.of_cell refl c.loop-link-test.false e)
    c.loop-link.invariant
