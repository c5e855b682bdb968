use Rattle.std.proofs.Common.{None}
use Rattle.net_hier.proofs.Partners.{partner_owns_instances}
use Rattle.net_flatten_over.proofs.Copied.{goes_over_copied}
use Rattle.net_flatten_over.proofs.laws.copies_of_flat_designs_are_flat.Goals as goal

pub returns : goal.returns
returns c = record {
  added = goes_over_copied;
  none_added = λ names design flat other differ valid same cells. goes_over_copied names design flat other None differ valid (partner_owns_instances names flat other valid cells) same cells;
}
