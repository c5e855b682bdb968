use Rattle.std.proofs.Common.{◌≡◌, ◌<◌, ap, subst, subst₂, sym, ◌∙◌, arith, length, slice_get, Some, All}
use Rattle.std.proofs.lemmas.Option.{slice_get_within}
use Rattle.net_hier.specs.declared.cells.HCell.{HCell}
use Rattle.flat_numbers.specs.FlatJoins.{AreConstants}
use Rattle.flat_numbers.specs.Layout.{base_of}
use Rattle.flat_classes.specs.Groups.{AreSame}
use Rattle.flat_numbers.specs.Numbers.{CellOf}
use Rattle.flat_numbers.specs.Tables.{rows_in}
use Rattle.flat_classes.specs.TerminalNumbers.{HaveLabels}
use Rattle.flat_classes.specs.Terminals.{leaf_spots, terminals_of}
use Rattle.flat_classes.proofs.FlatLaws.{first_spot, flat_whole, labels_below, leaves_of_cells, terminals_few, terminals_numbered}
use Rattle.flat_classes.proofs.LeafLists.{few_bits}
use Rattle.flat_numbers.proofs.Offsets.{few_instances, small_cells}
use Rattle.flat_numbers.proofs.SpotLaws.{listed_cells}
use Rattle.flat_classes.proofs.flat.flat_of.Goals as goal

pub classes_of-requires-clause-few : goal.classes_of-requires-clause-few
classes_of-requires-clause-few c = few_instances c.args.hier.now c.args.count c.cells-cells.ensures.valid.valid c.requires.counted c.requires.few

pub classes_of-requires-clause-are_constants : goal.classes_of-requires-clause-are_constants
classes_of-requires-clause-are_constants c = subst (AreConstants c.args.constants.now c.args.hier.now.cells) (sym c.as_slice.ensures.value) c.in_ok-kinds.ensures.constants

pub leaves_of-requires-clause-leaves : goal.leaves_of-requires-clause-leaves
leaves_of-requires-clause-leaves c = λ number spot e.
    let at = listed_cells c.in_ok-tables.ensures.is_layout.are_spots number spot (subst (λ ss. slice_get ss number ≡ Some spot) c.as_slice-2.ensures.value e) in
    let lt = slice_get_within c.args.hier.now.cells spot.cell at.0 at.1 in
    let l = ap length c.as_slice-3.ensures.value in
    omega (arith, lt, l, c.in_ok-kinds.ensures.leaves.len)

pub labels_of-requires-clause-leaves : goal.labels_of-requires-clause-leaves
labels_of-requires-clause-leaves c =
    let l : c.in_ok-leaves.leaves.items ≡ (leaf_spots c.in_ok-tables.tables.layout.spots.items c.in_ok-kinds.kinds.leaves.items c.in_ok-kinds.kinds.constants.items) =
    c.in_ok-leaves.ensures ∙ (ap (λ ss. leaf_spots ss c.as_slice-3.result.now c.as_slice-4.result.now) c.as_slice-2.ensures.value ∙ (ap (λ ms. leaf_spots c.in_ok-tables.tables.layout.spots.items ms c.as_slice-4.result.now) c.as_slice-3.ensures.value ∙ ap (leaf_spots c.in_ok-tables.tables.layout.spots.items c.in_ok-kinds.kinds.leaves.items) c.as_slice-4.ensures.value)) in
    subst (λ ls. All (λ leaf. (cell : HCell) × CellOf c.args.hier.now.cells c.in_ok-tables.tables.layout.spots.items leaf cell) ls) (sym (c.as_slice-6.ensures.value ∙ l)) (leaves_of_cells c.args.constants.now c.args.hier.now c.cells-cells.ensures.valid.valid c.args.count c.in_ok-tables.tables.layout c.in_ok-tables.tables.belows (rows_in c.in_ok-tables.tables.offsets.items) c.in_ok-tables.ensures c.in_ok-kinds.kinds c.in_ok-kinds.ensures)

pub numbers_in_order-requires-clause-few : goal.numbers_in_order-requires-clause-few
numbers_in_order-requires-clause-few c =
    let l : c.in_ok-leaves.leaves.items ≡ (leaf_spots c.in_ok-tables.tables.layout.spots.items c.in_ok-kinds.kinds.leaves.items c.in_ok-kinds.kinds.constants.items) =
    c.in_ok-leaves.ensures ∙ (ap (λ ss. leaf_spots ss c.as_slice-3.result.now c.as_slice-4.result.now) c.as_slice-2.ensures.value ∙ (ap (λ ms. leaf_spots c.in_ok-tables.tables.layout.spots.items ms c.as_slice-4.result.now) c.as_slice-3.ensures.value ∙ ap (leaf_spots c.in_ok-tables.tables.layout.spots.items c.in_ok-kinds.kinds.leaves.items) c.as_slice-4.ensures.value)) in
    let have : HaveLabels c.args.hier.now.cells c.in_ok-tables.tables.layout.spots.items (base_of c.in_ok-tables.tables.layout.bases.items c.in_ok-tables.tables.layout.count) c.in_ok-classes.classes.items (terminals_of c.args.hier.now.cells c.in_ok-tables.tables.layout.spots.items (leaf_spots c.in_ok-tables.tables.layout.spots.items c.in_ok-kinds.kinds.leaves.items c.in_ok-kinds.kinds.constants.items)) c.in_ok-labels.labels.items =
    subst₂ (λ cs ls. HaveLabels c.args.hier.now.cells c.in_ok-tables.tables.layout.spots.items (base_of c.in_ok-tables.tables.layout.bases.items c.in_ok-tables.tables.layout.count) cs (terminals_of c.args.hier.now.cells c.in_ok-tables.tables.layout.spots.items ls) c.in_ok-labels.labels.items) c.as_slice-5.ensures.value (c.as_slice-6.ensures.value ∙ l) c.in_ok-labels.ensures in
    let few : length (terminals_of c.args.hier.now.cells c.in_ok-tables.tables.layout.spots.items (leaf_spots c.in_ok-tables.tables.layout.spots.items c.in_ok-kinds.kinds.leaves.items c.in_ok-kinds.kinds.constants.items)) < 4294967296 = terminals_few c.args.constants.now c.args.hier.now c.cells-cells.ensures.valid.valid c.args.count c.in_ok-tables.tables.layout c.in_ok-tables.tables.belows (rows_in c.in_ok-tables.tables.offsets.items) c.in_ok-tables.ensures c.in_ok-kinds.kinds c.in_ok-kinds.ensures c.requires.few (small_cells c.args.hier.now c.args.count c.cells-cells.ensures.valid.valid c.requires.counted c.requires.few) in
    let v = ap length c.as_slice-7.ensures.value in
    omega (arith, few, v, have.len)

pub numbers_in_order-requires-clause-below : goal.numbers_in_order-requires-clause-below
numbers_in_order-requires-clause-below c =
    let l : c.in_ok-leaves.leaves.items ≡ (leaf_spots c.in_ok-tables.tables.layout.spots.items c.in_ok-kinds.kinds.leaves.items c.in_ok-kinds.kinds.constants.items) =
    c.in_ok-leaves.ensures ∙ (ap (λ ss. leaf_spots ss c.as_slice-3.result.now c.as_slice-4.result.now) c.as_slice-2.ensures.value ∙ (ap (λ ms. leaf_spots c.in_ok-tables.tables.layout.spots.items ms c.as_slice-4.result.now) c.as_slice-3.ensures.value ∙ ap (leaf_spots c.in_ok-tables.tables.layout.spots.items c.in_ok-kinds.kinds.leaves.items) c.as_slice-4.ensures.value)) in
    let have : HaveLabels c.args.hier.now.cells c.in_ok-tables.tables.layout.spots.items (base_of c.in_ok-tables.tables.layout.bases.items c.in_ok-tables.tables.layout.count) c.in_ok-classes.classes.items (terminals_of c.args.hier.now.cells c.in_ok-tables.tables.layout.spots.items (leaf_spots c.in_ok-tables.tables.layout.spots.items c.in_ok-kinds.kinds.leaves.items c.in_ok-kinds.kinds.constants.items)) c.in_ok-labels.labels.items =
    subst₂ (λ cs ls. HaveLabels c.args.hier.now.cells c.in_ok-tables.tables.layout.spots.items (base_of c.in_ok-tables.tables.layout.bases.items c.in_ok-tables.tables.layout.count) cs (terminals_of c.args.hier.now.cells c.in_ok-tables.tables.layout.spots.items ls) c.in_ok-labels.labels.items) c.as_slice-5.ensures.value (c.as_slice-6.ensures.value ∙ l) c.in_ok-labels.ensures in
    let all = labels_below c.args.constants.now c.args.hier.now c.cells-cells.ensures.valid.valid c.args.count c.in_ok-tables.tables.layout c.in_ok-tables.tables.belows (rows_in c.in_ok-tables.tables.offsets.items) c.in_ok-tables.ensures c.in_ok-classes.classes.items c.in_ok-classes.ensures (terminals_of c.args.hier.now.cells c.in_ok-tables.tables.layout.spots.items (leaf_spots c.in_ok-tables.tables.layout.spots.items c.in_ok-kinds.kinds.leaves.items c.in_ok-kinds.kinds.constants.items)) c.in_ok-labels.labels.items (terminals_numbered c.args.constants.now c.args.hier.now c.cells-cells.ensures.valid.valid c.args.count c.in_ok-tables.tables.layout c.in_ok-tables.tables.belows (rows_in c.in_ok-tables.tables.offsets.items) c.in_ok-tables.ensures c.in_ok-kinds.kinds c.in_ok-kinds.ensures) have in
    let e : c.len-bound.result ≡ c.in_ok-tables.tables.layout.count = omega (arith, c.len-bound.ensures, c.in_ok-classes.ensures.len, c.in_ok-classes.classes.ok) in
    subst₂ (λ n vs. All (λ value. value < n) vs) (sym e) (sym c.as_slice-7.ensures.value) all

pub terminals_of-requires-clause-bits : goal.terminals_of-requires-clause-bits
terminals_of-requires-clause-bits c = few_bits c.args.hier.now c.args.count c.cells-cells.ensures.valid.valid c.requires.counted c.requires.few

pub terminals_of-requires-clause-first : goal.terminals_of-requires-clause-first
terminals_of-requires-clause-first c = ap (λ ss. slice_get ss 0) (c.as_slice-8.ensures.value ∙ ap (λ v. v.items) c.spots_of-spots.ensures) ∙ first_spot c.args.constants.now c.args.hier.now c.cells-cells.ensures.valid.valid c.args.count c.in_ok-tables.tables.layout c.in_ok-tables.tables.belows (rows_in c.in_ok-tables.tables.offsets.items) c.in_ok-tables.ensures

pub terminals_of-requires-clause-leaves : goal.terminals_of-requires-clause-leaves
terminals_of-requires-clause-leaves c =
    let l : c.in_ok-leaves.leaves.items ≡ (leaf_spots c.in_ok-tables.tables.layout.spots.items c.in_ok-kinds.kinds.leaves.items c.in_ok-kinds.kinds.constants.items) =
    c.in_ok-leaves.ensures ∙ (ap (λ ss. leaf_spots ss c.as_slice-3.result.now c.as_slice-4.result.now) c.as_slice-2.ensures.value ∙ (ap (λ ms. leaf_spots c.in_ok-tables.tables.layout.spots.items ms c.as_slice-4.result.now) c.as_slice-3.ensures.value ∙ ap (leaf_spots c.in_ok-tables.tables.layout.spots.items c.in_ok-kinds.kinds.leaves.items) c.as_slice-4.ensures.value)) in
    subst₂ (λ ss ls. All (λ leaf. (cell : HCell) × CellOf c.args.hier.now.cells ss leaf cell) ls) (sym (c.as_slice-8.ensures.value ∙ ap (λ v. v.items) c.spots_of-spots.ensures)) (sym (c.as_slice-9.ensures.value ∙ l)) (leaves_of_cells c.args.constants.now c.args.hier.now c.cells-cells.ensures.valid.valid c.args.count c.in_ok-tables.tables.layout c.in_ok-tables.tables.belows (rows_in c.in_ok-tables.tables.offsets.items) c.in_ok-tables.ensures c.in_ok-kinds.kinds c.in_ok-kinds.ensures)

pub invariant_of-result : goal.invariant_of-result
invariant_of-result c =
    let l : c.in_ok-leaves.leaves.items ≡ (leaf_spots c.in_ok-tables.tables.layout.spots.items c.in_ok-kinds.kinds.leaves.items c.in_ok-kinds.kinds.constants.items) =
    c.in_ok-leaves.ensures ∙ (ap (λ ss. leaf_spots ss c.as_slice-3.result.now c.as_slice-4.result.now) c.as_slice-2.ensures.value ∙ (ap (λ ms. leaf_spots c.in_ok-tables.tables.layout.spots.items ms c.as_slice-4.result.now) c.as_slice-3.ensures.value ∙ ap (leaf_spots c.in_ok-tables.tables.layout.spots.items c.in_ok-kinds.kinds.leaves.items) c.as_slice-4.ensures.value)) in
    let have : HaveLabels c.args.hier.now.cells c.in_ok-tables.tables.layout.spots.items (base_of c.in_ok-tables.tables.layout.bases.items c.in_ok-tables.tables.layout.count) c.in_ok-classes.classes.items (terminals_of c.args.hier.now.cells c.in_ok-tables.tables.layout.spots.items (leaf_spots c.in_ok-tables.tables.layout.spots.items c.in_ok-kinds.kinds.leaves.items c.in_ok-kinds.kinds.constants.items)) c.in_ok-labels.labels.items =
    subst₂ (λ cs ls. HaveLabels c.args.hier.now.cells c.in_ok-tables.tables.layout.spots.items (base_of c.in_ok-tables.tables.layout.bases.items c.in_ok-tables.tables.layout.count) cs (terminals_of c.args.hier.now.cells c.in_ok-tables.tables.layout.spots.items ls) c.in_ok-labels.labels.items) c.as_slice-5.ensures.value (c.as_slice-6.ensures.value ∙ l) c.in_ok-labels.ensures in
    let few : length (terminals_of c.args.hier.now.cells c.in_ok-tables.tables.layout.spots.items (leaf_spots c.in_ok-tables.tables.layout.spots.items c.in_ok-kinds.kinds.leaves.items c.in_ok-kinds.kinds.constants.items)) < 4294967296 = terminals_few c.args.constants.now c.args.hier.now c.cells-cells.ensures.valid.valid c.args.count c.in_ok-tables.tables.layout c.in_ok-tables.tables.belows (rows_in c.in_ok-tables.tables.offsets.items) c.in_ok-tables.ensures c.in_ok-kinds.kinds c.in_ok-kinds.ensures c.requires.few (small_cells c.args.hier.now c.args.count c.cells-cells.ensures.valid.valid c.requires.counted c.requires.few) in
    let s : c.as_slice-8.result.now ≡ c.in_ok-tables.tables.layout.spots.items = c.as_slice-8.ensures.value ∙ ap (λ v. v.items) c.spots_of-spots.ensures in
    let t : c.in_ok-terminals.terminals.items ≡ (terminals_of c.args.hier.now.cells c.in_ok-tables.tables.layout.spots.items (leaf_spots c.in_ok-tables.tables.layout.spots.items c.in_ok-kinds.kinds.leaves.items c.in_ok-kinds.kinds.constants.items)) = c.in_ok-terminals.ensures ∙ (ap (λ ss. terminals_of c.args.hier.now.cells ss c.as_slice-9.result.now) s ∙ ap (terminals_of c.args.hier.now.cells c.in_ok-tables.tables.layout.spots.items) (c.as_slice-9.ensures.value ∙ l)) in
    let v = ap length c.as_slice-7.ensures.value in
    let n = ap length t in
    record {
      len = omega (arith, c.in_ok-groups.ensures.same.len, v, n, have.len);
      few = omega (arith, few, n);
      in_order = c.in_ok-groups.ensures.in_order;
    }

pub returns : goal.returns
returns c =
    let l : c.in_ok-leaves.leaves.items ≡ (leaf_spots c.in_ok-tables.tables.layout.spots.items c.in_ok-kinds.kinds.leaves.items c.in_ok-kinds.kinds.constants.items) =
    c.in_ok-leaves.ensures ∙ (ap (λ ss. leaf_spots ss c.as_slice-3.result.now c.as_slice-4.result.now) c.as_slice-2.ensures.value ∙ (ap (λ ms. leaf_spots c.in_ok-tables.tables.layout.spots.items ms c.as_slice-4.result.now) c.as_slice-3.ensures.value ∙ ap (leaf_spots c.in_ok-tables.tables.layout.spots.items c.in_ok-kinds.kinds.leaves.items) c.as_slice-4.ensures.value)) in
    let have : HaveLabels c.args.hier.now.cells c.in_ok-tables.tables.layout.spots.items (base_of c.in_ok-tables.tables.layout.bases.items c.in_ok-tables.tables.layout.count) c.in_ok-classes.classes.items (terminals_of c.args.hier.now.cells c.in_ok-tables.tables.layout.spots.items (leaf_spots c.in_ok-tables.tables.layout.spots.items c.in_ok-kinds.kinds.leaves.items c.in_ok-kinds.kinds.constants.items)) c.in_ok-labels.labels.items =
    subst₂ (λ cs ls. HaveLabels c.args.hier.now.cells c.in_ok-tables.tables.layout.spots.items (base_of c.in_ok-tables.tables.layout.bases.items c.in_ok-tables.tables.layout.count) cs (terminals_of c.args.hier.now.cells c.in_ok-tables.tables.layout.spots.items ls) c.in_ok-labels.labels.items) c.as_slice-5.ensures.value (c.as_slice-6.ensures.value ∙ l) c.in_ok-labels.ensures in
    let few : length (terminals_of c.args.hier.now.cells c.in_ok-tables.tables.layout.spots.items (leaf_spots c.in_ok-tables.tables.layout.spots.items c.in_ok-kinds.kinds.leaves.items c.in_ok-kinds.kinds.constants.items)) < 4294967296 = terminals_few c.args.constants.now c.args.hier.now c.cells-cells.ensures.valid.valid c.args.count c.in_ok-tables.tables.layout c.in_ok-tables.tables.belows (rows_in c.in_ok-tables.tables.offsets.items) c.in_ok-tables.ensures c.in_ok-kinds.kinds c.in_ok-kinds.ensures c.requires.few (small_cells c.args.hier.now c.args.count c.cells-cells.ensures.valid.valid c.requires.counted c.requires.few) in
    let s : c.as_slice-8.result.now ≡ c.in_ok-tables.tables.layout.spots.items = c.as_slice-8.ensures.value ∙ ap (λ v. v.items) c.spots_of-spots.ensures in
    let t : c.in_ok-terminals.terminals.items ≡ (terminals_of c.args.hier.now.cells c.in_ok-tables.tables.layout.spots.items (leaf_spots c.in_ok-tables.tables.layout.spots.items c.in_ok-kinds.kinds.leaves.items c.in_ok-kinds.kinds.constants.items)) = c.in_ok-terminals.ensures ∙ (ap (λ ss. terminals_of c.args.hier.now.cells ss c.as_slice-9.result.now) s ∙ ap (terminals_of c.args.hier.now.cells c.in_ok-tables.tables.layout.spots.items) (c.as_slice-9.ensures.value ∙ l)) in
    let v = ap length c.as_slice-7.ensures.value in
    let n = ap length t in
    flat_whole c.args.constants.now c.args.hier.now c.cells-cells.ensures.valid.valid c.args.count c.in_ok-tables.tables.layout c.in_ok-tables.tables.belows (rows_in c.in_ok-tables.tables.offsets.items) c.in_ok-tables.ensures c.in_ok-kinds.kinds c.in_ok-kinds.ensures c.in_ok-classes.classes.items c.in_ok-classes.ensures c.spots_of-spots.result.items c.in_ok-leaves.leaves.items c.in_ok-terminals.terminals.items c.in_ok-labels.labels.items c.in_ok-groups.groups.items
    (ap (λ v. v.items) c.spots_of-spots.ensures) l t (subst (λ ts. HaveLabels c.args.hier.now.cells c.in_ok-tables.tables.layout.spots.items (base_of c.in_ok-tables.tables.layout.bases.items c.in_ok-tables.tables.layout.count) c.in_ok-classes.classes.items ts c.in_ok-labels.labels.items) (sym t) have) (subst (λ vs. AreSame vs c.in_ok-groups.groups.items) c.as_slice-7.ensures.value c.in_ok-groups.ensures.same)
    c.in_ok-groups.count (record { len = omega (arith, c.in_ok-groups.ensures.same.len, v, n, have.len); few = omega (arith, few, n); in_order = c.in_ok-groups.ensures.in_order })
