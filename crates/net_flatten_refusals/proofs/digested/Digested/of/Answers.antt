use Rattle.std.proofs.Common.{ap, ◌∙◌}
use Rattle.net_flatten_refusals.specs.Digests.{items_of, under}
use Rattle.net_flatten_refusals.proofs.digested.Digested.of.Goals as goal

pub returns-in-None : goal.returns-in-None
unfolding under
returns-in-None c = ap items_of c.in-None.ensures.value

pub returns-in-Some : goal.returns-in-Some
unfolding under
returns-in-Some c = c.as_slice.ensures.value ∙ ap items_of c.in-Some.ensures.value
