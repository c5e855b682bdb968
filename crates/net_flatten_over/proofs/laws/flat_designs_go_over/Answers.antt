use Rattle.net_flatten_over.proofs.Copied.{valid_own_names}
use Rattle.net_flatten_over.proofs.Going.{goes_over}
use Rattle.net_flatten_over.proofs.laws.flat_designs_go_over.Goals as goal

pub returns : goal.returns
returns c = record {
  named = goes_over;
  valid = λ names design flat other valid ovalid. goes_over names design flat other (valid_own_names flat valid) (valid_own_names other ovalid);
}
