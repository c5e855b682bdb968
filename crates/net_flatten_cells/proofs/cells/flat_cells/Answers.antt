use Rattle.std.proofs.Common.{◌≡◌, ◌<◌, ◌++◌, ◌∷◌, [], length, map, ap, subst₂, sym, ◌∙◌, arith, All}
use Rattle.net_flatten_cells.proofs.CellLaws.{cells_few, inner_few}
use Rattle.net_flatten_rules.proofs.MarkLaws.{cells_within, inner_within}
use Rattle.net_flatten_rules.specs.FlatDesign.{cell_or_none, stub, inner, leaf_cells}
use Rattle.net_flatten_cells.proofs.cells.flat_cells.Goals as goal

pub leaf_cells-requires-clause-leaves : goal.leaf_cells-requires-clause-leaves
leaf_cells-requires-clause-leaves c =
    let leaves : c.as_slice.result.now ≡ inner c.args.flat.now.leaves = c.as_slice.ensures.value ∙ (c.in_ok-leaves.ensures ∙ ap inner c.leaves.ensures) in
    subst₂ (λ ss ls. All (λ leaf. leaf < length ss) ls) (sym c.spots.ensures) (sym leaves) (inner_within c.requires.classes.0 c.args.hier.now c.args.flat.now c.requires.classes.1)

pub stubs_of-requires : goal.stubs_of-requires
stubs_of-requires c =
    let leaves : c.as_slice.result.now ≡ inner c.args.flat.now.leaves = c.as_slice.ensures.value ∙ (c.in_ok-leaves.ensures ∙ ap inner c.leaves.ensures) in
    let numbers : c.as_slice-2.result.now ≡ leaf_cells c.args.hier.now.order c.args.flat.now.spots (inner c.args.flat.now.leaves) = c.as_slice-2.ensures.value
    ∙ (c.in_ok-numbers.ensures ∙ (ap (λ ss. leaf_cells c.args.hier.now.order ss c.as_slice.result.now) c.spots.ensures ∙ ap (leaf_cells c.args.hier.now.order c.args.flat.now.spots) leaves)) in
    subst₂ (λ cs ns. All (λ number. number < length cs) ns) (sym c.cells.ensures.cells) (sym numbers) (cells_within c.args.hier.now c.cells.ensures.valid.valid c.args.flat.now.spots (inner c.args.flat.now.leaves))

pub of-requires-clause-few : goal.of-requires-clause-few
of-requires-clause-few c =
    let leaves : c.as_slice.result.now ≡ inner c.args.flat.now.leaves = c.as_slice.ensures.value ∙ (c.in_ok-leaves.ensures ∙ ap inner c.leaves.ensures) in
    let numbers : c.in_ok-numbers.numbers.items ≡ leaf_cells c.args.hier.now.order c.args.flat.now.spots (inner c.args.flat.now.leaves) =
    c.in_ok-numbers.ensures ∙ (ap (λ ss. leaf_cells c.args.hier.now.order ss c.as_slice.result.now) c.spots.ensures ∙ ap (leaf_cells c.args.hier.now.order c.args.flat.now.spots) leaves) in
    let few = cells_few c.requires.classes.0 c.args.hier.now c.args.flat.now c.requires.classes.1 c.cells.ensures.valid c.requires.few in
    omega (arith, few, ap length numbers)

pub of-requires-clause-below : goal.of-requires-clause-below
of-requires-clause-below c =
    let leaves : c.as_slice.result.now ≡ inner c.args.flat.now.leaves = c.as_slice.ensures.value ∙ (c.in_ok-leaves.ensures ∙ ap inner c.leaves.ensures) in
    let numbers : c.in_ok-numbers.numbers.items ≡ leaf_cells c.args.hier.now.order c.args.flat.now.spots (inner c.args.flat.now.leaves) =
    c.in_ok-numbers.ensures ∙ (ap (λ ss. leaf_cells c.args.hier.now.order ss c.as_slice.result.now) c.spots.ensures ∙ ap (leaf_cells c.args.hier.now.order c.args.flat.now.spots) leaves) in
    subst₂ (λ cs ns. All (λ number. number < length cs) ns) (sym c.cells-2.ensures.cells) (sym numbers) (cells_within c.args.hier.now c.cells.ensures.valid.valid c.args.flat.now.spots (inner c.args.flat.now.leaves))

pub of-requires-2-clause-few : goal.of-requires-2-clause-few
of-requires-2-clause-few c =
    let leaves : c.in_ok-leaves.leaves.items ≡ inner c.args.flat.now.leaves = c.in_ok-leaves.ensures ∙ ap inner c.leaves.ensures in
    let few = inner_few c.requires.classes.0 c.args.hier.now c.args.flat.now c.requires.classes.1 c.cells.ensures.valid c.requires.few in
    omega (arith, few, ap length leaves)

pub of-requires-2-clause-below : goal.of-requires-2-clause-below
of-requires-2-clause-below c =
    let leaves : c.in_ok-leaves.leaves.items ≡ inner c.args.flat.now.leaves = c.in_ok-leaves.ensures ∙ ap inner c.leaves.ensures in
    subst₂ (λ ss ls. All (λ leaf. leaf < length ss) ls) (sym c.spots-2.ensures) (sym leaves) (inner_within c.requires.classes.0 c.args.hier.now c.args.flat.now c.requires.classes.1)

pub returns : goal.returns
returns c = λ paths of.
    let leaves : c.as_slice.result.now ≡ inner c.args.flat.now.leaves = c.as_slice.ensures.value ∙ (c.in_ok-leaves.ensures ∙ ap inner c.leaves.ensures) in
    let numbers : c.as_slice-2.result.now ≡ leaf_cells c.args.hier.now.order c.args.flat.now.spots (inner c.args.flat.now.leaves) = c.as_slice-2.ensures.value
    ∙ (c.in_ok-numbers.ensures ∙ (ap (λ ss. leaf_cells c.args.hier.now.order ss c.as_slice.result.now) c.spots.ensures ∙ ap (leaf_cells c.args.hier.now.order c.args.flat.now.spots) leaves)) in
    let stubs : c.in_ok-cells.cells ≡ map (λ number. stub (cell_or_none c.args.hier.now.cells number)) (leaf_cells c.args.hier.now.order c.args.flat.now.spots (inner c.args.flat.now.leaves)) = c.in_ok-cells.ensures
    ∙ (ap (λ cs. map (λ number. stub (cell_or_none cs number)) c.as_slice-2.result.now) c.cells.ensures.cells ∙ ap (map (λ number. stub (cell_or_none c.args.hier.now.cells number))) numbers) in
    c.in_ok-push.ensures.added
    ∙ (ap (λ cs. cs ++ c.in_ok-flat_top.field-0 ∷ []) stubs
    ∙ ap (λ t. map (λ number. stub (cell_or_none c.args.hier.now.cells number)) (leaf_cells c.args.hier.now.order c.args.flat.now.spots (inner c.args.flat.now.leaves)) ++ t ∷ []) (c.in_ok-flat_top.ensures paths of))
