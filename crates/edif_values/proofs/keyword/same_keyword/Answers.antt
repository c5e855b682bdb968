use Rattle.std.proofs.Common.{◌∙◌}
use Rattle.edif_values.proofs.Same.{tags_tell}
use Rattle.edif_values.proofs.keyword.same_keyword.Goals as goal

pub returns : goal.returns
returns c = c.eq.ensures ∙ tags_tell c.args.a c.args.b
