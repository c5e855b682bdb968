use Rattle.std.proofs.Common.{inr, sym, subst}
use Rattle.flat_numbers.specs.Numbers.{AreLinks}
use Rattle.flat_classes.proofs.KindLaws.{both_values, stars_are_links}
use Rattle.flat_classes.proofs.kinds.kind_at.Goals as goal

pub returns : goal.returns
returns c = λ cell is. record {
  links = inr (subst (AreLinks c.args.hier.now.cells cell) (sym c.in_ok-links.ensures) (stars_are_links c.args.hier.now.cells cell c.in_ok-classes.classes (c.cells-cells.ensures.valid.valid.good_cells c.args.number cell is) (c.in_ok-classes.ensures cell is)));
  leaf = c.is_leaf.ensures cell is;
  constant = λ value. both_values c.args.constants.now cell c.constant_of.result (c.constant_of.ensures.zero cell is) (c.constant_of.ensures.one cell is) value;
}
