use Rattle.std.proofs.Common.{nat_eq, Some, sym, ◌∙◌, ap}
use Rattle.std.specs.Option.{option_eq}
use Rattle.uses.proofs.Connected.{connected_in_class, connected_in_none}
use Rattle.uses.proofs.connection.are_connected.Goals as goal
use Rattle.uses.proofs.connection.are_connected.Goals.{in-Some, in-None}

-- src/connection.rt:10:1
pub returns : goal.returns
returns c = elim c.match-class_of.branch [
  | in-Some w ↦ connected_in_class c.args.cell.now c.in_ok-classes.classes c.in_ok-classes.ensures c.args.a.now c.args.b.now w.in-Some.class c.match-class_of.result
      (sym c.class_of.ensures ∙ w.in-Some.is)
      (w.result-is ∙ (w.eq.ensures ∙ ap (λ found. option_eq nat_eq found (Some w.in-Some.class)) w.class_of-in-Some.ensures))
  | in-None w ↦ connected_in_none c.args.cell.now c.in_ok-classes.classes c.in_ok-classes.ensures c.args.a.now c.args.b.now c.match-class_of.result
      (sym c.class_of.ensures ∙ w.in-None.is)
      (w.result-is ∙ w.eq-in-None.ensures)
]
