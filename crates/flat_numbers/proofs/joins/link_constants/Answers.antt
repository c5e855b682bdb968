use Rattle.std.proofs.Common.{◌≡◌, ◌+◌, ◌≤◌, length, arith, subst, ap, refl, get_or, slice_get, Some}
use Rattle.std.proofs.lemmas.Option.{slice_get-get_or}
use Rattle.net_hier.specs.declared.cells.HInst.{HInst}
use Rattle.net_hier.proofs.PathLaws.{element_there}
use Rattle.flat_numbers.specs.FlatJoins.{ConstantAt, ConstantsOf}
use Rattle.flat_numbers.specs.Layout.{base_of}
use Rattle.flat_numbers.specs.Numbers.{CellOf}
use Rattle.flat_numbers.specs.Tables.{rows_in}
use Rattle.flat_numbers.proofs.Finding.{cell_read, read_within}
use Rattle.flat_numbers.proofs.Linking.{Below, below_more, constants_whole, forest_more, links_along, links_by, links_none}
use Rattle.flat_numbers.proofs.joins.link_constants.Goals as goal

pub bounds-cells-index : goal.bounds-cells-index
bounds-cells-index c = read_within c.args.hier.now c.cells-cells.ensures.valid.valid c.requires.are_tables.0 c.requires.are_tables.2 c.args.tables.now.layout c.args.tables.now.belows (rows_in c.args.tables.now.offsets.items) c.requires.are_tables.1 c.args.number c.index.result.now c.cells-cells.result.now c.requires.spot c.cells-cells.ensures.cells c.index.ensures

pub overflow_cast-place : goal.overflow_cast-place
overflow_cast-place c =
    let of : CellOf c.args.hier.now.cells c.args.tables.now.layout.spots.items c.args.number c.index-cells-index.result = cell_read c.args.hier.now c.cells-cells.ensures.valid.valid c.requires.are_tables.0 c.requires.are_tables.2 c.args.tables.now.layout c.args.tables.now.belows (rows_in c.args.tables.now.offsets.items) c.requires.are_tables.1 c.args.number c.index.result.now c.cells-cells.result.now c.index-cells-index.result c.requires.spot c.cells-cells.ensures.cells c.index.ensures c.index-cells-index.is in
    let few : length c.index-cells-index.result.instances ≤ 2000000 = c.requires.few of.spot.cell c.index-cells-index.result of.is_cell in
    let n : length c.items-instances.result.now ≡ length c.index-cells-index.result.instances = ap length c.items-instances.ensures in
    omega (arith, few, n, c.loop-place-test.true)

pub link_constant-requires-clause-instance : goal.link_constant-requires-clause-instance
link_constant-requires-clause-instance c =
    let of : CellOf c.args.hier.now.cells c.args.tables.now.layout.spots.items c.args.number c.index-cells-index.result = cell_read c.args.hier.now c.cells-cells.ensures.valid.valid c.requires.are_tables.0 c.requires.are_tables.2 c.args.tables.now.layout c.args.tables.now.belows (rows_in c.args.tables.now.offsets.items) c.requires.are_tables.1 c.args.number c.index.result.now c.cells-cells.result.now c.index-cells-index.result c.requires.spot c.cells-cells.ensures.cells c.index.ensures c.index-cells-index.is in
    let read : HInst = get_or c.items-instances.result.now c.loop-place.place c.index-instances-place.result in
    let there : slice_get c.index-cells-index.result.instances c.loop-place.place ≡ Some read = subst (λ w. slice_get w c.loop-place.place ≡ Some read) c.items-instances.ensures (slice_get-get_or c.items-instances.result.now c.loop-place.place c.index-instances-place.result c.loop-place-test.true) in
    let below = element_there c.args.hier.now.cells read.cell ((c.cells-cells.ensures.valid.valid.good_cells of.spot.cell c.index-cells-index.result of.is_cell).instances_in_range c.loop-place.place read there) in
    record { cell = c.index-cells-index.result; of_cell = of; instance = read; is_there = there; is_of = refl; below_cell = below.0; is_below = below.1 }

pub link_constant-requires-clause-forest : goal.link_constant-requires-clause-forest
link_constant-requires-clause-forest c = forest_more c.args.tables.now.layout.count c.args.parents.now c.loop-place.parents (Below (ConstantAt c.args.names.now c.args.hier.now.cells c.args.tables.now.layout.spots.items (base_of c.args.tables.now.layout.bases.items c.args.tables.now.layout.count) c.args.number) c.loop-place.place) c.requires.forest c.loop-place.invariant

pub loop-place-init : goal.loop-place-init
loop-place-init c = links_none c.args.tables.now.layout.count _ _ (λ u v n. let lt = n.1 in omega (arith, lt))

pub loop-place-preserved : goal.loop-place-preserved
loop-place-preserved c = links_along c.args.tables.now.layout.count c.args.parents.now c.loop-place.parents c.link_constant.new.parents (Below (ConstantAt c.args.names.now c.args.hier.now.cells c.args.tables.now.layout.spots.items (base_of c.args.tables.now.layout.bases.items c.args.tables.now.layout.count) c.args.number) c.loop-place.place) (ConstantAt c.args.names.now c.args.hier.now.cells c.args.tables.now.layout.spots.items (base_of c.args.tables.now.layout.bases.items c.args.tables.now.layout.count) c.args.number c.loop-place.place) (Below (ConstantAt c.args.names.now c.args.hier.now.cells c.args.tables.now.layout.spots.items (base_of c.args.tables.now.layout.bases.items c.args.tables.now.layout.count) c.args.number) (c.loop-place.place + 1)) (below_more (ConstantAt c.args.names.now c.args.hier.now.cells c.args.tables.now.layout.spots.items (base_of c.args.tables.now.layout.bases.items c.args.tables.now.layout.count) c.args.number) c.loop-place.place) c.loop-place.invariant c.link_constant.ensures

pub returns : goal.returns
returns c =
    let of : CellOf c.args.hier.now.cells c.args.tables.now.layout.spots.items c.args.number c.index-cells-index.result = cell_read c.args.hier.now c.cells-cells.ensures.valid.valid c.requires.are_tables.0 c.requires.are_tables.2 c.args.tables.now.layout c.args.tables.now.belows (rows_in c.args.tables.now.offsets.items) c.requires.are_tables.1 c.args.number c.index.result.now c.cells-cells.result.now c.index-cells-index.result c.requires.spot c.cells-cells.ensures.cells c.index.ensures c.index-cells-index.is in
    let l : length c.index-cells-index.result.instances ≤ c.loop-place.place = subst (λ w. length w ≤ c.loop-place.place) c.items-instances.ensures c.loop-place-test.false in
    links_by c.args.tables.now.layout.count c.args.parents.now c.loop-place.parents (Below (ConstantAt c.args.names.now c.args.hier.now.cells c.args.tables.now.layout.spots.items (base_of c.args.tables.now.layout.bases.items c.args.tables.now.layout.count) c.args.number) c.loop-place.place) (ConstantsOf c.args.names.now c.args.hier.now.cells c.args.tables.now.layout.spots.items (base_of c.args.tables.now.layout.bases.items c.args.tables.now.layout.count) c.args.number)
    (λ x y e. constants_whole c.args.names.now c.args.hier.now.cells c.args.tables.now.layout.spots.items (base_of c.args.tables.now.layout.bases.items c.args.tables.now.layout.count) c.args.number c.index-cells-index.result c.loop-place.place x y of l e) c.loop-place.invariant
