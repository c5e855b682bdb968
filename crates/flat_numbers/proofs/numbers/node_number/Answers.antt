use Rattle.std.proofs.Common.{◌<◌, length, arith, subst, sym, ◌∙◌, refl}
use Rattle.std.proofs.lemmas.Option.{slice_get_within}
use Rattle.net_hier.specs.Valid.{IsNode}
use Rattle.flat_numbers.specs.Layout.{base_of}
use Rattle.flat_numbers.specs.Numbers.{CellOf, NodeNumber}
use Rattle.flat_numbers.specs.Tables.{HasNumber, rows_in}
use Rattle.flat_numbers.proofs.Finding.{cell_within, ports_there, IsFound, PinFound, has_port, net_found, net_number, one_is, pin_found, pin_number, port_found, port_number, zero_is}
use Rattle.flat_numbers.proofs.numbers.node_number.Goals as goal

pub place_number-requires : goal.place_number-requires
place_number-requires c = port_found c.args.hier.now c.cells-cells.ensures.valid.valid c.requires.are_tables.0 c.requires.are_tables.2 c.args.tables.now.layout c.args.tables.now.belows (rows_in c.args.tables.now.offsets.items) c.requires.are_tables.1 c.args.number c.requires.is_node.0 c.in-Port.port c.in-Port.bit c.requires.is_node.1 (subst (IsNode c.args.hier.now.cells c.requires.is_node.0) c.in-Port.is c.requires.is_node.2)

pub index-requires : goal.index-requires
index-requires c =
    let of : CellOf c.args.hier.now.cells c.args.tables.now.layout.spots.items c.args.number c.requires.is_node.0 = c.requires.is_node.1 in
    let lt : c.args.number < length c.args.tables.now.layout.spots.items = slice_get_within c.args.tables.now.layout.spots.items c.args.number of.spot of.is_spot in
    omega (arith, lt, c.args.tables.now.layout.spots.ok)

pub bounds-cells-index : goal.bounds-cells-index
bounds-cells-index c = cell_within c.args.hier.now.cells c.args.tables.now.layout.spots.items c.args.number c.requires.is_node.0 c.requires.is_node.1 c.index.result.now c.cells-cells.result.now c.cells-cells.ensures.cells c.index.ensures

pub place_number-requires-in-Net : goal.place_number-requires-in-Net
place_number-requires-in-Net c =
    net_found c.args.hier.now c.cells-cells.ensures.valid.valid c.requires.are_tables.0 c.requires.are_tables.2 c.args.tables.now.layout c.args.tables.now.belows (rows_in c.args.tables.now.offsets.items) c.requires.are_tables.1 c.args.number c.requires.is_node.0 c.in-Net.net c.len.result c.requires.is_node.1 (subst (IsNode c.args.hier.now.cells c.requires.is_node.0) c.in-Net.is c.requires.is_node.2)
    (c.len.ensures ∙ ports_there c.args.hier.now.cells c.args.tables.now.layout.spots.items c.args.number c.requires.is_node.0 c.requires.is_node.1 c.index.result.now c.cells-cells.result.now c.index-cells-index.result c.index-cells-index.result.ports c.cells-cells.ensures.cells c.index.ensures c.index-cells-index.is refl)

pub at-inner-requires : goal.at-inner-requires
at-inner-requires c =
    let p : PinFound c.args.hier.now c.cells-cells.ensures.valid.valid c.requires.are_tables.0 c.requires.are_tables.2 c.args.tables.now.layout c.args.tables.now.belows (rows_in c.args.tables.now.offsets.items) c.requires.are_tables.1 c.args.number c.in-Pin.instance c.in-Pin.port c.in-Pin.bit = pin_found c.args.hier.now c.cells-cells.ensures.valid.valid c.requires.are_tables.0 c.requires.are_tables.2 c.args.tables.now.layout c.args.tables.now.belows (rows_in c.args.tables.now.offsets.items) c.requires.are_tables.1 c.args.number c.requires.is_node.0 c.in-Pin.instance c.in-Pin.port c.in-Pin.bit c.requires.is_node.1 (subst (IsNode c.args.hier.now.cells c.requires.is_node.0) c.in-Pin.is c.requires.is_node.2) in
    (p.inner, p.in_table)

pub place_number-requires-in-Pin : goal.place_number-requires-in-Pin
place_number-requires-in-Pin c =
    let p : PinFound c.args.hier.now c.cells-cells.ensures.valid.valid c.requires.are_tables.0 c.requires.are_tables.2 c.args.tables.now.layout c.args.tables.now.belows (rows_in c.args.tables.now.offsets.items) c.requires.are_tables.1 c.args.number c.in-Pin.instance c.in-Pin.port c.in-Pin.bit = pin_found c.args.hier.now c.cells-cells.ensures.valid.valid c.requires.are_tables.0 c.requires.are_tables.2 c.args.tables.now.layout c.args.tables.now.belows (rows_in c.args.tables.now.offsets.items) c.requires.are_tables.1 c.args.number c.requires.is_node.0 c.in-Pin.instance c.in-Pin.port c.in-Pin.bit c.requires.is_node.1 (subst (IsNode c.args.hier.now.cells c.requires.is_node.0) c.in-Pin.is c.requires.is_node.2) in
    subst (λ k. IsFound c.args.hier.now c.cells-cells.ensures.valid.valid c.requires.are_tables.0 c.requires.are_tables.2 c.args.tables.now.layout c.args.tables.now.belows (rows_in c.args.tables.now.offsets.items) c.requires.are_tables.1 k c.in-Pin.port c.in-Pin.bit) (sym (c.at-inner.ensures p.inner p.in_table)) p.found

pub returns-in-Zero : goal.returns-in-Zero
returns-in-Zero c = λ cell u of n. zero_is c.args.hier.now.cells c.args.tables.now.layout.spots.items (base_of c.args.tables.now.layout.bases.items c.args.tables.now.layout.count) c.args.number cell u (subst (λ w. NodeNumber c.args.hier.now.cells c.args.tables.now.layout.spots.items (base_of c.args.tables.now.layout.bases.items c.args.tables.now.layout.count) c.args.number cell w u) c.in-Zero.is n)

pub returns-in-One : goal.returns-in-One
returns-in-One c = λ cell u of n. one_is c.args.hier.now.cells c.args.tables.now.layout.spots.items (base_of c.args.tables.now.layout.bases.items c.args.tables.now.layout.count) c.args.number cell u (subst (λ w. NodeNumber c.args.hier.now.cells c.args.tables.now.layout.spots.items (base_of c.args.tables.now.layout.bases.items c.args.tables.now.layout.count) c.args.number cell w u) c.in-One.is n)

pub returns-in-Port : goal.returns-in-Port
returns-in-Port c = λ cell u of n. port_number c.args.hier.now c.cells-cells.ensures.valid.valid c.requires.are_tables.0 c.requires.are_tables.2 c.args.tables.now.layout c.args.tables.now.belows (rows_in c.args.tables.now.offsets.items) c.requires.are_tables.1 c.args.number cell of c.in-Port.port c.in-Port.bit u c.place_number.result (has_port c.args.hier.now.cells c.args.tables.now.layout.spots.items (base_of c.args.tables.now.layout.bases.items c.args.tables.now.layout.count) c.args.number cell c.in-Port.port c.in-Port.bit u (subst (λ w. NodeNumber c.args.hier.now.cells c.args.tables.now.layout.spots.items (base_of c.args.tables.now.layout.bases.items c.args.tables.now.layout.count) c.args.number cell w u) c.in-Port.is n)) (subst (λ w. NodeNumber c.args.hier.now.cells c.args.tables.now.layout.spots.items (base_of c.args.tables.now.layout.bases.items c.args.tables.now.layout.count) c.args.number cell w u) c.in-Port.is n) c.place_number.ensures

pub returns-in-Net : goal.returns-in-Net
returns-in-Net c = λ cell u of n. net_number c.args.hier.now c.cells-cells.ensures.valid.valid c.requires.are_tables.0 c.requires.are_tables.2 c.args.tables.now.layout c.args.tables.now.belows (rows_in c.args.tables.now.offsets.items) c.requires.are_tables.1 c.args.number cell of c.in-Net.net c.len.result u c.place_number-in-Net.result
    (c.len.ensures ∙ ports_there c.args.hier.now.cells c.args.tables.now.layout.spots.items c.args.number cell of c.index.result.now c.cells-cells.result.now c.index-cells-index.result c.index-cells-index.result.ports c.cells-cells.ensures.cells c.index.ensures c.index-cells-index.is refl) (subst (λ w. NodeNumber c.args.hier.now.cells c.args.tables.now.layout.spots.items (base_of c.args.tables.now.layout.bases.items c.args.tables.now.layout.count) c.args.number cell w u) c.in-Net.is n) c.place_number-in-Net.ensures

pub returns-in-Pin : goal.returns-in-Pin
returns-in-Pin c = λ cell u of n.
    let p : PinFound c.args.hier.now c.cells-cells.ensures.valid.valid c.requires.are_tables.0 c.requires.are_tables.2 c.args.tables.now.layout c.args.tables.now.belows (rows_in c.args.tables.now.offsets.items) c.requires.are_tables.1 c.args.number c.in-Pin.instance c.in-Pin.port c.in-Pin.bit = pin_found c.args.hier.now c.cells-cells.ensures.valid.valid c.requires.are_tables.0 c.requires.are_tables.2 c.args.tables.now.layout c.args.tables.now.belows (rows_in c.args.tables.now.offsets.items) c.requires.are_tables.1 c.args.number c.requires.is_node.0 c.in-Pin.instance c.in-Pin.port c.in-Pin.bit c.requires.is_node.1 (subst (IsNode c.args.hier.now.cells c.requires.is_node.0) c.in-Pin.is c.requires.is_node.2) in
    let h : HasNumber c.args.tables.now.belows c.args.number c.in-Pin.instance c.at-inner.result = subst (HasNumber c.args.tables.now.belows c.args.number c.in-Pin.instance) (sym (c.at-inner.ensures p.inner p.in_table)) p.in_table in
    pin_number c.args.hier.now c.cells-cells.ensures.valid.valid c.requires.are_tables.0 c.requires.are_tables.2 c.args.tables.now.layout c.args.tables.now.belows (rows_in c.args.tables.now.offsets.items) c.requires.are_tables.1 c.args.number cell of c.in-Pin.instance c.in-Pin.port c.in-Pin.bit u c.place_number-in-Pin.result c.at-inner.result h (subst (λ w. NodeNumber c.args.hier.now.cells c.args.tables.now.layout.spots.items (base_of c.args.tables.now.layout.bases.items c.args.tables.now.layout.count) c.args.number cell w u) c.in-Pin.is n) c.place_number-in-Pin.ensures
