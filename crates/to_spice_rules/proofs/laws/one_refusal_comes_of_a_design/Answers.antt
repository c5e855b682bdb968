use Rattle.to_spice_rules.proofs.One.{broken, one_refusal}
use Rattle.to_spice_rules.proofs.laws.one_refusal_comes_of_a_design.Goals as goal

pub returns : goal.returns
returns c = record { one = one_refusal; broken = broken }
