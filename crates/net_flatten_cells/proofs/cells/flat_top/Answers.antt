use Rattle.std.proofs.Common.{ap, subst, subst₂, sym, ◌∙◌}
use Rattle.flat_classes.specs.Ways.{AreInner}
use Rattle.net_flatten_cells.proofs.FlatLaws.{are_inner, have_spots}
use Rattle.net_flatten_cells.specs.Places.{Numbers}
use Rattle.net_flatten_cells.specs.Wired.{HaveSpots}
use Rattle.net_flatten_cells.proofs.cells.flat_top.Goals as goal

pub leaf_instances-requires-clause-leaves : goal.leaf_instances-requires-clause-leaves
leaf_instances-requires-clause-leaves c = subst₂ (AreInner c.args.hier.now.cells) (sym c.spots.ensures) (sym (c.numbers.ensures ∙ ap (λ (n : Numbers). n.numbers) c.requires.leaves)) (are_inner c.requires.classes.0 c.args.hier.now c.args.flat.now c.requires.classes.1)

pub flat_joins-requires-clause-spots : goal.flat_joins-requires-clause-spots
flat_joins-requires-clause-spots c = subst (λ n. HaveSpots n c.args.flat.now.terminals) (sym (ap (λ (n : Numbers). n.count) c.requires.leaves)) (have_spots c.requires.classes.0 c.args.hier.now c.args.flat.now c.requires.classes.1)
