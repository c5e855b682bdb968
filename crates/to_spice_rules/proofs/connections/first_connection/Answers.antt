use Rattle.std.proofs.Common.{◌<◌, ◌≤◌, ◌∙◌, [], ap, arith, length, refl, subst, sym}
use Rattle.net_hier.specs.declared.cells.HCell.{HCell}
use Rattle.to_spice_rules.specs.Names.{refused}
use Rattle.to_spice_rules.specs.declared.refusal.SpiceRule.TheVariants.{S6}
use Rattle.to_spice_rules.proofs.Sizes.{cell_there}
use Rattle.to_spice_rules.proofs.Walk.{tied_within, walk_more, walk_none, walk_ports, walk_start, walk_tied}
use Rattle.to_spice_rules.proofs.connections.first_connection.Goals as goal

pub loop-number-init : goal.loop-number-init
loop-number-init c = walk_start c.args.hier.now.cells

pub returns-in-Some : goal.returns-in-Some
returns-in-Some c =
    walk_ports c.args.hier.now.cells c.loop-number.number c.in_ok-ports.field-0 c.in-Some.refusal (subst (λ l. c.loop-number.number < length l) c.cells-cells.ensures.cells c.loop-number-test.true)
    c.in_ok-ports.ensures c.in-Some.is c.loop-number.invariant.0

pub loop-number-preserved : goal.loop-number-preserved
loop-number-preserved c =
    walk_more c.args.hier.now.cells c.loop-number.number c.in_ok-ports.field-0 c.loop-number.tied c.earlier_place-tied.result c.in_ok-ports.field-0.is_tied
    (subst (λ l. c.loop-number.number < length l) c.cells-cells.ensures.cells c.loop-number-test.true) c.in_ok-ports.ensures c.in_default.is refl c.loop-number.invariant c.earlier_place-tied.ensures

pub offset_bounds-cells-number : goal.offset_bounds-cells-number
offset_bounds-cells-number c =
    let lt = tied_within c.args.hier.now.cells c.loop-number.number c.loop-number.tied c.in-Some-tied.number c.loop-number.invariant.1 c.in-Some-tied.is in
    let few = c.cells-cells.ensures.valid.few_parts.few_cells in
    omega (arith, lt, few)

pub bounds-cells-number : goal.bounds-cells-number
bounds-cells-number c =
    subst (λ l. c.in-Some-tied.number < length l) (sym c.cells-cells.ensures.cells) (tied_within c.args.hier.now.cells c.loop-number.number c.loop-number.tied c.in-Some-tied.number c.loop-number.invariant.1 c.in-Some-tied.is)

pub returns-in-None : goal.returns-in-None
returns-in-None c =
    walk_none c.args.hier.now.cells c.loop-number.number c.loop-number.tied (subst (λ l. length l ≤ c.loop-number.number) c.cells-cells.ensures.cells c.loop-number-test.false) c.loop-number.invariant c.in-None.is

pub returns-in_ok-refuse_cell-in-Some-tied : goal.returns-in_ok-refuse_cell-in-Some-tied
returns-in_ok-refuse_cell-in-Some-tied c =
    let lt = tied_within c.args.hier.now.cells c.loop-number.number c.loop-number.tied c.in-Some-tied.number c.loop-number.invariant.1 c.in-Some-tied.is in
    walk_tied c.args.hier.now.cells c.cells-cells.result.now c.loop-number.number c.loop-number.tied c.in-Some-tied.number c.index-cells-number.result c.in_ok-refuse_cell-in-Some-tied.field-0
    (subst (λ l. length l ≤ c.loop-number.number) c.cells-cells.ensures.cells c.loop-number-test.false) c.loop-number.invariant c.in-Some-tied.is
    (cell_there c.args.hier.now.cells c.cells-cells.result.now c.in-Some-tied.number c.index-cells-number.result c.cells-cells.ensures.cells lt c.index-cells-number.is)
    (c.in_ok-refuse_cell-in-Some-tied.ensures ∙ (ap (λ n. refused S6 n []) c.bytes-name.ensures ∙ ap (λ (cell : HCell). refused S6 cell.name []) (sym c.index-cells-number.is)))
