use Rattle.std.proofs.Common.{rules, ◌==◌, length, List, sym, ap, ◌∙◌}
use Rattle.net_hier.specs.declared.cells.HCell.{HCell}
use Rattle.net_hier.specs.declared.cells.HInst.{HInst}
use Rattle.net_bits.proofs.LeafLaws.{apart_from_leaf, cell_is, leaf_from_apart, no_items}
use Rattle.net_bits.proofs.leaf.is_leaf.Goals as goal

pub returns-then-is_empty : goal.returns-then-is_empty
returns-then-is_empty c value h =
    let cells = c.args.hier.now.cells in
    let classes = c.args.classes.now in
    let are = c.requires.classes value h in
    let same = cell_is cells c.args.cell value c.index-cells-cell.result h (search rules) in
    let none = no_items value.instances (sym (c.is_empty.ensures ∙ ap (λ (z : HCell). length z.instances == 0) (sym c.index-cells-cell.is ∙ same)) ∙ c.if-is_empty.true) in
    let good = c.cells.ensures.valid.valid.good_cells c.args.cell value h in (
      λ t. leaf_from_apart value classes are none (c.are_apart.ensures.0 t),
      λ leaf. c.are_apart.ensures.1 (apart_from_leaf cells value classes good are leaf),
    )

pub returns-else-is_empty : goal.returns-else-is_empty
returns-else-is_empty c value h =
    let cells = c.args.hier.now.cells in
    let same = cell_is cells c.args.cell value c.index-cells-cell.result h (search rules) in
    let no = c.if-is_empty.false in
    let test = c.is_empty.ensures ∙ ap (λ (z : HCell). length z.instances == 0) (sym c.index-cells-cell.is ∙ same) in (
      λ t. absurd (cc),
      λ leaf. test ∙ ap (λ (xs : List HInst). length xs == 0) leaf.no_instances,
    )
