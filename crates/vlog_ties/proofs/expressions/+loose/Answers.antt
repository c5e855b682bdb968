use Rattle.std.proofs.Common.{refl, sym, ◌∙◌}
use Rattle.vlog_design.specs.Exprs.{has_loose}
use Rattle.vlog_design.proofs.ExprLemmas.{has_loose-Cat, has_loose-Lit, has_loose-Loose, has_loose-LooseNumber, has_loose-Ref, has_loose-Rep}
use Rattle.vlog_ties.proofs.Broken.{any_map}
use Rattle.vlog_ties.proofs.expressions.+loose.Goals as goal

pub has_loose-returns-in-Ref : goal.has_loose-returns-in-Ref
has_loose-returns-in-Ref t c = rw (c.in-Ref.is, has_loose-Ref) refl

pub has_loose-returns-in-Lit : goal.has_loose-returns-in-Lit
has_loose-returns-in-Lit t c = rw (c.in-Lit.is, has_loose-Lit) refl

pub has_loose-returns-in-LooseNumber : goal.has_loose-returns-in-LooseNumber
has_loose-returns-in-LooseNumber t c = rw (c.in-LooseNumber.is, has_loose-LooseNumber) refl

pub has_loose-returns-in-Loose : goal.has_loose-returns-in-Loose
has_loose-returns-in-Loose t c = rw (c.in-Loose.is, has_loose-Loose) refl

pub has_loose-returns-in-Cat : goal.has_loose-returns-in-Cat
has_loose-returns-in-Cat t c = rw (c.in-Cat.is, has_loose-Cat, ← c.items.ensures) (c.any_loose.ensures ∙ sym (any_map has_loose _))

pub has_loose-returns-in-Rep : goal.has_loose-returns-in-Rep
has_loose-returns-in-Rep t c = rw (c.in-Rep.is, has_loose-Rep, ← c.get.ensures, ← c.items-in-Rep.ensures) (c.any_loose-in-Rep.ensures ∙ sym (any_map has_loose _))
