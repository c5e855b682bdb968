use Rattle.net_flatten_one.proofs.One.{one_design, one_refusals, one_flattened}
use Rattle.net_flatten_one.proofs.laws.flattening_is_one.Goals as goal

pub returns : goal.returns
returns c = record {
  design = one_design;
  refusals = λ names design a b apaths bpaths valid. one_refusals names design valid a b apaths bpaths;
  flattened = λ names design a b valid. one_flattened names design valid a b;
}
