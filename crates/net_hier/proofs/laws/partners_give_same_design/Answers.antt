use Rattle.std.proofs.Common.{None}
use Rattle.net_hier.proofs.Partners.{partner_has_paths, partner_owns_instances, valid_has_paths}
use Rattle.net_hier.proofs.Theorem.{same_design}
use Rattle.net_hier.proofs.laws.partners_give_same_design.Goals as goal

pub returns : goal.returns
returns c = record {
  added = λ names design other n differ valid own same. same_design names design other n (valid_has_paths design valid) (partner_has_paths names design other n valid same own) same differ;
  none_added = λ names design other differ valid same.
      same_design names design other None (valid_has_paths design valid) (partner_has_paths names design other None valid same (partner_owns_instances names design other valid same)) same differ;
}
