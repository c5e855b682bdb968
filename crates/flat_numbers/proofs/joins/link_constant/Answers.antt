use Rattle.std.proofs.Common.{◌≡◌, ◌<◌, ◌++◌, [], ◌∷◌, true, false, length, arith, ap, refl, ◌∙◌, get_or, slice_get, Some, None}
use Rattle.std.proofs.lemmas.Option.{slice_get_within, slice_get-get_or}
use mir.Val.{bool_byte}
use Rattle.net_hier.specs.declared.nodes.Node.TheVariants.{Pin}
use Rattle.flat_numbers.specs.FlatJoins.{ConstantAt, InstanceAt}
use Rattle.flat_numbers.specs.Layout.{base_of}
use Rattle.flat_numbers.specs.Numbers.{constant_number}
use Rattle.flat_numbers.specs.Tables.{rows_in}
use Rattle.flat_numbers.proofs.Bounds.{node_below, room}
use Rattle.flat_numbers.proofs.Finding.{number_got}
use Rattle.flat_numbers.proofs.Linking.{constant_none, constant_push, constant_there, forest_labels, links_join, links_none}
use Rattle.flat_numbers.proofs.NumberLaws.{constant_pin}
use Rattle.flat_numbers.proofs.joins.link_constant.Goals as goal

pub node_number-a-requires-clause-is_node : goal.node_number-a-requires-clause-is_node
node_number-a-requires-clause-is_node c =
    let at : InstanceAt c.args.hier.now.cells c.args.tables.now.layout.spots.items c.args.number c.args.place c.args.below = c.requires.instance in
    let below : c.args.below < length c.args.hier.now.cells = slice_get_within c.args.hier.now.cells c.args.below at.below_cell at.is_below in
    let lt : c.args.below < length c.args.constants.now = omega (arith, below, c.requires.are_constants.len) in
    let read : slice_get c.args.constants.now c.args.below ≡ Some (get_or c.args.constants.now c.args.below None) = slice_get-get_or c.args.constants.now c.args.below None lt in
    let there : slice_get c.args.constants.now c.args.below ≡ Some (Some c.in-Some.value) = read ∙ ap Some c.in-Some.is in
    let pin = constant_pin c.args._names.now c.args.hier.now.cells at.cell c.in-Some.value c.args.place (constant_there c.args._names.now c.args.hier.now.cells c.args.tables.now.layout.spots.items c.args.constants.now c.args.number c.args.place c.args.below c.requires.are_constants at c.in-Some.value there) in
    (at.cell, at.of_cell, pin)

pub join_roots-requires-clause-a : goal.join_roots-requires-clause-a
join_roots-requires-clause-a c =
    let at : InstanceAt c.args.hier.now.cells c.args.tables.now.layout.spots.items c.args.number c.args.place c.args.below = c.requires.instance in
    let below : c.args.below < length c.args.hier.now.cells = slice_get_within c.args.hier.now.cells c.args.below at.below_cell at.is_below in
    let lt : c.args.below < length c.args.constants.now = omega (arith, below, c.requires.are_constants.len) in
    let read : slice_get c.args.constants.now c.args.below ≡ Some (get_or c.args.constants.now c.args.below None) = slice_get-get_or c.args.constants.now c.args.below None lt in
    let there : slice_get c.args.constants.now c.args.below ≡ Some (Some c.in-Some.value) = read ∙ ap Some c.in-Some.is in
    let pin = constant_pin c.args._names.now c.args.hier.now.cells at.cell c.in-Some.value c.args.place (constant_there c.args._names.now c.args.hier.now.cells c.args.tables.now.layout.spots.items c.args.constants.now c.args.number c.args.place c.args.below c.requires.are_constants at c.in-Some.value there) in
    let got = number_got c.args.hier.now c.cells-cells.ensures.valid.valid c.requires.are_tables.0 c.requires.are_tables.2 c.args.tables.now.layout c.args.tables.now.belows (rows_in c.args.tables.now.offsets.items) c.requires.are_tables.1 c.args.number at.cell (Pin c.args.place 0 0) c.node_number-a.result at.of_cell pin c.node_number-a.ensures in
    let within = node_below c.args.hier.now c.requires.are_tables.0 c.args.tables.now.layout c.args.tables.now.belows (rows_in c.args.tables.now.offsets.items) c.requires.are_tables.1 c.cells-cells.ensures.valid.valid c.args.number at.cell (Pin c.args.place 0 0) c.node_number-a.result at.of_cell got in
    let size : length c.args.parents.now ≡ c.args.tables.now.layout.count = c.requires.forest.1.len in
    omega (arith, within, size)

pub join_roots-requires-clause-b : goal.join_roots-requires-clause-b
join_roots-requires-clause-b c =
    let small = elim c.in-Some.value as (λ v. bool_byte v < 2) [ true ↦ omega arith | false ↦ omega arith ] in
    let two = room c.args.hier.now c.requires.are_tables.0 c.args.tables.now.layout c.args.tables.now.belows (rows_in c.args.tables.now.offsets.items) c.requires.are_tables.1 in
    let size : length c.args.parents.now ≡ c.args.tables.now.layout.count = c.requires.forest.1.len in
    omega (arith, small, two, size)

pub join_roots-requires-clause-labels : goal.join_roots-requires-clause-labels
join_roots-requires-clause-labels c = forest_labels c.args.tables.now.layout.count c.args.parents.now c.requires.forest

pub returns-in-Some : goal.returns-in-Some
returns-in-Some c =
    let at : InstanceAt c.args.hier.now.cells c.args.tables.now.layout.spots.items c.args.number c.args.place c.args.below = c.requires.instance in
    let below : c.args.below < length c.args.hier.now.cells = slice_get_within c.args.hier.now.cells c.args.below at.below_cell at.is_below in
    let lt : c.args.below < length c.args.constants.now = omega (arith, below, c.requires.are_constants.len) in
    let read : slice_get c.args.constants.now c.args.below ≡ Some (get_or c.args.constants.now c.args.below None) = slice_get-get_or c.args.constants.now c.args.below None lt in
    let there : slice_get c.args.constants.now c.args.below ≡ Some (Some c.in-Some.value) = read ∙ ap Some c.in-Some.is in
    let pin = constant_pin c.args._names.now c.args.hier.now.cells at.cell c.in-Some.value c.args.place (constant_there c.args._names.now c.args.hier.now.cells c.args.tables.now.layout.spots.items c.args.constants.now c.args.number c.args.place c.args.below c.requires.are_constants at c.in-Some.value there) in
    let got = number_got c.args.hier.now c.cells-cells.ensures.valid.valid c.requires.are_tables.0 c.requires.are_tables.2 c.args.tables.now.layout c.args.tables.now.belows (rows_in c.args.tables.now.offsets.items) c.requires.are_tables.1 c.args.number at.cell (Pin c.args.place 0 0) c.node_number-a.result at.of_cell pin c.node_number-a.ensures in
    links_join c.args.tables.now.layout.count c.args.parents.now c.join_roots.new.parents c.node_number-a.result (bool_byte c.in-Some.value) (ConstantAt c.args._names.now c.args.hier.now.cells c.args.tables.now.layout.spots.items (base_of c.args.tables.now.layout.bases.items c.args.tables.now.layout.count) c.args.number c.args.place) c.join_roots.ensures.joined c.join_roots.ensures.len
    (λ x. constant_push c.args._names.now c.args.hier.now.cells c.args.tables.now.layout.spots.items (base_of c.args.tables.now.layout.bases.items c.args.tables.now.layout.count) c.args.constants.now c.args.number c.args.place c.args.below c.requires.are_constants at c.in-Some.value there x (x ++ record { a = c.node_number-a.result; b = bool_byte c.in-Some.value } ∷ []) c.node_number-a.result _ refl (elim c.in-Some.value as (λ v. bool_byte v ≡ constant_number v) [ true ↦ refl | false ↦ refl ]) c.node_number-a.ensures got)

pub returns-in-None : goal.returns-in-None
returns-in-None c =
    let at : InstanceAt c.args.hier.now.cells c.args.tables.now.layout.spots.items c.args.number c.args.place c.args.below = c.requires.instance in
    let below : c.args.below < length c.args.hier.now.cells = slice_get_within c.args.hier.now.cells c.args.below at.below_cell at.is_below in
    let lt : c.args.below < length c.args.constants.now = omega (arith, below, c.requires.are_constants.len) in
    let read : slice_get c.args.constants.now c.args.below ≡ Some (get_or c.args.constants.now c.args.below None) = slice_get-get_or c.args.constants.now c.args.below None lt in
    links_none c.args.tables.now.layout.count c.args.parents.now (ConstantAt c.args._names.now c.args.hier.now.cells c.args.tables.now.layout.spots.items (base_of c.args.tables.now.layout.bases.items c.args.tables.now.layout.count) c.args.number c.args.place) (constant_none c.args._names.now c.args.hier.now.cells c.args.tables.now.layout.spots.items (base_of c.args.tables.now.layout.bases.items c.args.tables.now.layout.count) c.args.constants.now c.args.number c.args.place c.args.below c.requires.are_constants at (get_or c.args.constants.now c.args.below None) read c.in-None.is)
