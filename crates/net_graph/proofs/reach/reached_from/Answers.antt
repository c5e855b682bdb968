use Rattle.std.proofs.Common.{◌≡◌, false, length, replicate, true, inl, inr, subst, arith}
use Rattle.net_graph.specs.Marks.{is_marked}
use Rattle.net_graph.proofs.MarkLaws.{no_mark}
use Rattle.net_graph.proofs.WorkLaws.{reached_marks}
use Rattle.net_graph.proofs.reach.reached_from.Goals as goal

pub returns-clause-marks : goal.returns-clause-marks
returns-clause-marks c =
    let none : c.in_ok-marks.marks.items ≡ replicate (length c.args.graph.now) false = c.in_ok-marks.ensures.items_if_clones_equal (λ y e. e) in
    let long : length c.mark_reached.new.marks.items ≡ length c.args.graph.now = omega (arith, c.mark_reached.new.marks.ok.0, c.in_ok-mark_reached.ensures.long) in
    reached_marks c.args.graph.now c.args.start c.requires.within c.requires.in_range c.mark_reached.new.marks.items long (λ number. (
      (λ h. elim ((c.in_ok-mark_reached.ensures.marks number).0 h) [ inl e ↦ absurd (no_mark (length c.args.graph.now) number (subst (λ ms. is_marked ms number ≡ true) none e)) | inr e ↦ e ]),
      (λ h. (c.in_ok-mark_reached.ensures.marks number).1 (inr h)),
    ))
