use Rattle.to_verilog_props.proofs.Meanings.{given_keep, given_once}
use Rattle.to_verilog_props.proofs.laws.parameters_mean_properties.Goals as goal

pub returns-clause-values : goal.returns-clause-values
returns-clause-values c = given_keep

pub returns-clause-once : goal.returns-clause-once
returns-clause-once c = given_once
