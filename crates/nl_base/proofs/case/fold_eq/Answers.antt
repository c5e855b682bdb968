use Rattle.std.proofs.Common.{◌∙◌}
use Rattle.nl_base.proofs.Letters.{pairs_alike}
use Rattle.nl_base.proofs.case.fold_eq.Goals as goal

pub returns-then-a-b : goal.returns-then-a-b
returns-then-a-b c = c.are_alike.ensures ∙ pairs_alike c.args.a.now c.args.b.now c.if-a-b.true
