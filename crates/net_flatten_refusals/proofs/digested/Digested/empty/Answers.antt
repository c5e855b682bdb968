use Rattle.std.proofs.Common.{ap, nat_eq}
use Rattle.std.specs.Map.{lookup}
use Rattle.net_flatten_refusals.specs.Digests.{items_of, under}
use Rattle.net_flatten_refusals.proofs.digested.Digested.empty.Goals as goal

pub returns : goal.returns
unfolding under
returns c = λ digest. ap (λ es. items_of (lookup (nat_eq digest) es)) c.new.ensures.empty
